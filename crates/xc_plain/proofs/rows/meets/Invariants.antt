use Rattle.std.proofs.Common.{◌≡◌, slice_index}
use Rattle.xc_alg.specs.Products.{product}
use Rattle.xc_fixpoint.specs.Lists.{values}
use Rattle.xc_plain.specs.Successors.{IsRow}
use Rattle.xc_plain.proofs.rows.meets.Given as goal

abbrev pub invariant-loop-state : goal.invariant-loop-state
invariant-loop-state g l = record {
  range : IsRow (product (g.A.Algebra.parts l.algebra)).size l.state l.row;
  value : l.row ≡ values l.state (λ s. (product (g.A.Algebra.parts l.algebra)).meet (slice_index l.left s) (slice_index l.right s));
}
