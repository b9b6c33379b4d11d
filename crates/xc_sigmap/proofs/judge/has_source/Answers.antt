use Rattle.std.proofs.Common.{sym, ◌∙◌}
use Rattle.xc_sigmap.proofs.Finding.{source_found}
use Rattle.xc_sigmap.proofs.judge.has_source.Goals as goal

pub returns-in-Some : goal.returns-in-Some
returns-in-Some c =
    source_found c.args.vars.now c.args.source.now c.args.pairs.now c.in-Some.place c.index-vars-place.result c.as_slice.result.now c.are_values.result
    (sym c.find_var.ensures ∙ c.in-Some.is) c.as_slice.ensures c.are_values.ensures
