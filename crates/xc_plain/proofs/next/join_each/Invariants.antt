-- The join of what the states from one on weigh.
use Rattle.std.proofs.Common.{◌≡◌, ◌<◌, ◌-◌, length, slice_index}
use Rattle.xc_alg.specs.Products.{product}
use Rattle.xc_plain.specs.Successors.{weighed_from}
use Rattle.xc_plain.proofs.next.join_each.Given as goal

abbrev pub invariant-loop-state : goal.invariant-loop-state
invariant-loop-state g l = record {
  range : l.sum < (product (g.A.Algebra.parts l.algebra)).size;
  value : l.sum ≡ weighed_from (product (g.A.Algebra.parts l.algebra)) (slice_index l.row) (slice_index l.codes) l.state (length l.row - l.state);
}
