use Rattle.std.proofs.Common.{ℕ, slice_index}
use Rattle.xc_alg.specs.Operations.{Operations}
use Rattle.xc_plain.proofs.Telling.{told_value}
use Rattle.xc_plain.proofs.node.join_row.Goals as goal

pub returns-clause-value : goal.returns-clause-value
returns-clause-value g c = told_value _ _ _ _ (λ (o : Operations) (s : ℕ). o.join (slice_index c.args.left.now s) (slice_index c.args.right.now s)) _ c.product.ensures c.requires.right.count c.in_ok-row.ensures.value
