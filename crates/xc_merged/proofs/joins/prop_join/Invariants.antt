use Rattle.std.proofs.Common.{◌≡◌, ◌<◌, map}
use Rattle.xc_alg.specs.Products.{product}
use Rattle.xc_merged.specs.Joins.{both, holds_there, joined_from}
use Rattle.xc_merged.proofs.joins.prop_join.Given as goal

abbrev pub invariant-loop-i : goal.invariant-loop-i
invariant-loop-i g l = record {
  below : l.sum < (product (g.A.Algebra.parts l.algebra)).size;
  sum : l.sum ≡ joined_from (product (g.A.Algebra.parts l.algebra)) l.base l.marks (both l.counts (map (holds_there l.from) l.lines)) l.i;
}
