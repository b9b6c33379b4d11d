use Rattle.std.proofs.Common.{◌≡◌, slice_index}
use Rattle.xc_alg.specs.Products.{product}
use Rattle.xc_fixpoint.specs.Lists.{values}
use Rattle.xc_plain.specs.Successors.{IsRow, next_by}
use Rattle.xc_plain.proofs.next.next_row.Given as goal

abbrev pub invariant-loop-state : goal.invariant-loop-state
invariant-loop-state g l = record {
  range : IsRow (product (g.A.Algebra.parts l.algebra)).size l.state l.next;
  value : l.next ≡ values l.state (next_by (product (g.A.Algebra.parts l.algebra)) l.rows (slice_index l.codes));
}
