use Rattle.std.proofs.Common.{ℕ}
use Rattle.xc_alg.specs.Operations.{Operations}
use Rattle.xc_plain.proofs.Telling.{told_value}
use Rattle.xc_plain.proofs.node.constant_row.Goals as goal

pub returns-clause-value : goal.returns-clause-value
returns-clause-value g c = told_value _ _ _ _ (λ (o : Operations) (s : ℕ). c.args.code) _ c.product.ensures c.states.ensures c.in_ok-row.ensures.value
