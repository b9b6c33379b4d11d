-- Whether the rest of the names are the same is whether all are.
use Rattle.std.proofs.Common.{◌≡◌, drop}
use Rattle.xc_base.specs.Names.{are_same}
use Rattle.xc_expr.proofs.operands.have_same_names.Given as goal

abbrev pub invariant-loop-place : goal.invariant-loop-place
invariant-loop-place l = are_same (drop l.place l.left) (drop l.place l.right) ≡ are_same l.left l.right
