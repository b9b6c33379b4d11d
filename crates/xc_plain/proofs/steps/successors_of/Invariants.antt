-- The successors among the states from one on.
use Rattle.std.proofs.Common.{length}
use Rattle.xc_alg.specs.Products.{product}
use Rattle.xc_plain.specs.Successors.{AreSuccessors}
use Rattle.xc_plain.proofs.Keeping.{AreJoined}
use Rattle.xc_plain.proofs.steps.successors_of.Given as goal

abbrev pub invariant-loop-state : goal.invariant-loop-state
invariant-loop-state g l = record {
  safe : AreSuccessors (product (g.A.Algebra.parts l.algebra)).size (length l.row) l.few;
  told : AreJoined (product (g.A.Algebra.parts l.algebra)) l.row (length l.row) l.state l.few;
}
