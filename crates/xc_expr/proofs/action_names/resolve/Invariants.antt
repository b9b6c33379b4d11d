-- What is known and what is left come to what all settings come to.
use Rattle.std.proofs.Common.{◌≡◌, [], drop}
use Rattle.xc_expr.specs.KnownSettings.{resolves}
use Rattle.xc_expr.proofs.action_names.resolve.Given as goal

abbrev pub invariant-loop-place : goal.invariant-loop-place
invariant-loop-place l = resolves l.vars l.action (drop l.place l.settings) ≡ resolves l.vars [] l.settings
