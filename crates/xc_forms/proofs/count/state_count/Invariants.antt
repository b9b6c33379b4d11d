use Rattle.std.proofs.Common.{◌≡◌, drop}
use Rattle.xc_theory.specs.Codes.{total}
use Rattle.xc_forms.specs.Variables.{sizes_of}
use Rattle.xc_forms.proofs.count.state_count.Given as goal

abbrev pub invariant-loop-place : goal.invariant-loop-place
invariant-loop-place l = l.count ≡ total (sizes_of (drop l.place l.vars))
