-- The successors that are left, joined to what is joined already, give the whole.
use Rattle.std.proofs.Common.{◌≡◌, ◌<◌, drop, slice_index}
use Rattle.xc_alg.specs.Products.{product}
use Rattle.xc_plain.specs.Successors.{few_joined}
use Rattle.xc_plain.proofs.next.join_few.Given as goal

abbrev pub invariant-loop-place : goal.invariant-loop-place
invariant-loop-place g l = record {
  range : l.sum < (product (g.A.Algebra.parts l.algebra)).size;
  value : few_joined (product (g.A.Algebra.parts l.algebra)) (slice_index l.codes) l.sum (drop l.place l.successors) ≡ few_joined (product (g.A.Algebra.parts l.algebra)) (slice_index l.codes) (product (g.A.Algebra.parts l.algebra)).bottom l.successors;
}
