-- What comes of the tokens of a guard.
use Rattle.std.proofs.Common.{◌≡◌, ℕ, List, Some, None, sym}
use Rattle.xc_expr.specs.Tests.{Test}
use Rattle.xc_expr.specs.Written.{Written}
use Rattle.xc_expr.specs.Resolving.{resolved}
use Rattle.xc_expr.specs.Reading.{guard_in}
use Rattle.xc_expr.specs.Outcomes.{IsTest, IsUnknownGuard}
use Rattle.xc_forms.specs.declared.domain.Domain.{Domain}
use Rattle.xc_expr.proofs.GuardReading.{guard_sound}

-- a guard of known names
pub guard_is_test : (vars : List Domain) (tokens : List (List ℕ)) (g : Written) (test : Test) → Some g ≡ guard_in tokens → Some test ≡ resolved vars g → IsTest vars tokens test
guard_is_test vars tokens g test read known = record { guard = g; spelled = guard_sound tokens g (sym read); known = sym known }

-- a guard with a name that is not known
pub guard_is_unknown : (vars : List Domain) (tokens : List (List ℕ)) (g : Written) → Some g ≡ guard_in tokens → None ≡ resolved vars g → IsUnknownGuard vars tokens
guard_is_unknown vars tokens g read unknown = record { guard = g; spelled = guard_sound tokens g (sym read); unknown = sym unknown }

-- both together
pub ruleset guard_steps = (guard_is_test, guard_is_unknown)
