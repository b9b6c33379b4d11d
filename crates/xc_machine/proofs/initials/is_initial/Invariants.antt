-- Whether a state is initial for the rest of the viewpoints is whether it is so for all.
use Rattle.std.proofs.Common.{◌≡◌}
use Rattle.xc_machine.specs.Descent.{initial_from}
use Rattle.xc_merged.specs.Gathered.{merged_of}
use Rattle.xc_machine.proofs.initials.is_initial.Given as goal

abbrev pub invariant-loop-v : goal.invariant-loop-v
invariant-loop-v l = initial_from (merged_of l.merged) l.s l.v ≡ initial_from (merged_of l.merged) l.s 0
