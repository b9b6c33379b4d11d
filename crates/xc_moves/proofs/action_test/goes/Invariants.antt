-- Whether the rest of the variables go is whether all do.
use Rattle.std.proofs.Common.{◌≡◌}
use Rattle.xc_forms.specs.Variables.{sizes_of}
use Rattle.xc_moves.specs.Moving.{goes_from}
use Rattle.xc_moves.proofs.action_test.goes.Given as goal

abbrev pub invariant-loop-var : goal.invariant-loop-var
invariant-loop-var l = goes_from (sizes_of l.vars) l.action l.from l.to l.var ≡ goes_from (sizes_of l.vars) l.action l.from l.to 0
