use Rattle.std.proofs.Common.{◌∙◌, slice_index}
use Rattle.xc_alg.specs.Operations.{Operations}
use Rattle.xc_plain.specs.Successors.{next_by}
use Rattle.xc_plain.proofs.Telling.{told_value, next_told}
use Rattle.xc_plain.proofs.node.some_next_row.Goals as goal

pub returns-clause-value : goal.returns-clause-value
returns-clause-value g c = λ s low.
    told_value _ _ _ _ (λ (o : Operations). next_by o c.args.rows.now (slice_index c.args.codes.now)) _ c.product.ensures c.requires.codes.count c.in_ok-row.ensures.value s low
    ∙ next_told (g.M.Framed.frame c.args.model.now) (g.met.M.Framed.is_frame c.args.model.now) c.args.rows.now c.requires.rows (slice_index c.args.codes.now) c.requires.codes.range s low
