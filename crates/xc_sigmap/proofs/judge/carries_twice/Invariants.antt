use Rattle.std.proofs.Common.{◌≡◌, drop}
use Rattle.xc_base.specs.Names.{has_twice}
use Rattle.xc_sigmap_lines.specs.MapFiles.{carried_names}
use Rattle.xc_sigmap.proofs.judge.carries_twice.Given as goal

abbrev pub invariant-loop-place : goal.invariant-loop-place
invariant-loop-place l = has_twice (carried_names (drop l.place l.pairs)) ≡ has_twice (carried_names l.pairs)
