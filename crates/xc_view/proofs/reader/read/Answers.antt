use Rattle.xc_base.specs.Lines.{rows_in}
use Rattle.xc_view.specs.Views.{value_of}
use Rattle.xc_view.specs.Drafted.{drafted}
use Rattle.xc_view.proofs.ShortViews.{read_views_are_short}
use Rattle.xc_view.proofs.Verdicts.{none_is_missing, view_accepted, stop_is_first, stopped_is_first}
use Rattle.xc_view.proofs.reader.read.Goals as goal

pub gather-requires : goal.gather-requires
gather-requires c = none_is_missing (rows_in c.args.lines.now) (drafted c.in_ok-draft.draft) c.in_ok-draft.ensures

pub returns-clause-ok : goal.returns-clause-ok
returns-clause-ok c =
    view_accepted (rows_in c.args.lines.now) (drafted c.in_ok-draft.draft) (value_of c.in_ok-view.view) c.in_ok-draft.ensures c.in_ok-view.ensures

pub returns-in_err-draft-clause-err : goal.returns-in_err-draft-clause-err
returns-in_err-draft-clause-err c =
    stopped_is_first (rows_in c.args.lines.now) c.in_err-draft.field-0.0
    (stop_is_first drafted (rows_in c.args.lines.now) c.in_err-draft.field-0.0 c.in_err-draft.ensures) c.from_residual.result c.from_residual.ensures.1

pub returns-clause-short : goal.returns-clause-short
returns-clause-short c cut =
    read_views_are_short c.args.lines.now.source.now (rows_in c.args.lines.now) (value_of c.in_ok-view.view)
    (view_accepted (rows_in c.args.lines.now) (drafted c.in_ok-draft.draft) (value_of c.in_ok-view.view) c.in_ok-draft.ensures c.in_ok-view.ensures) cut
