use Rattle.std.proofs.Common.{◌≡◌}
use Rattle.xc_alg.specs.Products.{product}
use Rattle.xc_fixpoint.specs.Lists.{values}
use Rattle.xc_plain.specs.Successors.{IsRow}
use Rattle.xc_plain.proofs.rows.filled.Given as goal

abbrev pub invariant-loop-state : goal.invariant-loop-state
invariant-loop-state g l = record {
  range : IsRow (product (g.A.Algebra.parts l._algebra)).size l.state l.row;
  value : l.row ≡ values l.state (λ s. l.code);
}
