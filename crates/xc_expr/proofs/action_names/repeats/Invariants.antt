-- What the rest of the settings says is what all say.
use Rattle.std.proofs.Common.{◌≡◌, drop}
use Rattle.xc_expr.specs.KnownSettings.{repeats}
use Rattle.xc_expr.proofs.action_names.repeats.Given as goal

abbrev pub invariant-loop-place : goal.invariant-loop-place
invariant-loop-place l = repeats (drop l.place l.settings) ≡ repeats l.settings
