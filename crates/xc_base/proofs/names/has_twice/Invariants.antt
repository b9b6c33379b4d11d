use Rattle.std.proofs.Common.{◌≡◌, drop}
use Rattle.xc_base.specs.Names.{has_twice}
use Rattle.xc_base.proofs.names.has_twice.Given as goal

abbrev pub invariant-loop-place : goal.invariant-loop-place
invariant-loop-place l = has_twice (drop l.place l.names) ≡ has_twice l.names
