use Rattle.std.proofs.Common.{◌≡◌, ◌<◌, map}
use Rattle.xc_alg.specs.Products.{product}
use Rattle.xc_forms.specs.Variables.{sizes_of}
use Rattle.xc_merged.specs.Joins.{leads_to, joined_from}
use Rattle.xc_merged.proofs.joins.step_join.Given as goal

abbrev pub invariant-loop-i : goal.invariant-loop-i
invariant-loop-i g l = record {
  below : l.sum < (product (g.A.Algebra.parts l.algebra)).size;
  sum : l.sum ≡ joined_from (product (g.A.Algebra.parts l.algebra)) l.base l.weights (map (leads_to (sizes_of l.vars) l.from l.to) l.commands) l.i;
}
