use Rattle.xc_base.specs.Lines.{rows_in}
use Rattle.xc_sigmap.specs.Maps.{value_of}
use Rattle.xc_sigmap.specs.Kept.{drafted}
use Rattle.xc_sigmap.proofs.Verdicts.{none_is_missing, map_accepted, stop_is_first, stopped_is_first}
use Rattle.xc_sigmap.proofs.reader.read.Goals as goal

pub gather-requires : goal.gather-requires
gather-requires c = none_is_missing (rows_in c.args.lines.now) (drafted c.in_ok-draft.draft) c.in_ok-draft.ensures

pub returns-clause-ok : goal.returns-clause-ok
returns-clause-ok c =
    map_accepted (rows_in c.args.lines.now) (drafted c.in_ok-draft.draft) (value_of c.in_ok-map.map) c.in_ok-draft.ensures c.in_ok-map.ensures

pub returns-in_err-draft-clause-err : goal.returns-in_err-draft-clause-err
returns-in_err-draft-clause-err c =
    stopped_is_first (rows_in c.args.lines.now) c.in_err-draft.field-0.0
    (stop_is_first drafted (rows_in c.args.lines.now) c.in_err-draft.field-0.0 c.in_err-draft.ensures) c.from_residual.result c.from_residual.ensures.1
