-- Joins of the elements of commands and lines, as the code comes to them. No public clause rests on these words.
use Rattle.std.specs.Prelude.{ℕ, Bool, ◌&&◌, if◌then◌else◌, List, [], ◌∷◌, drop}
use Rattle.xc_alg.specs.Operations.{Operations}
use Rattle.xc_expr.specs.Tests.{test_of, is_in_range, holds_at}
use Rattle.xc_expr.specs.Actions.{allows, is_action_in_range}
use Rattle.xc_forms.specs.declared.domain.Domain.{Domain}
use Rattle.xc_view.specs.declared.lines.PropLine.{PropLine}
use Rattle.xc_view.specs.declared.lines.Command.{Command}

-- the guards and the actions of commands, and the guards of lines, speak of the variables
abbrev pub has_guard_in : List Domain → Command → Bool
has_guard_in vars c = is_in_range vars (test_of c.guard)

abbrev pub has_action_in : List Domain → Command → Bool
has_action_in vars c = is_action_in_range vars c.action

abbrev pub has_test_in : List Domain → PropLine → Bool
has_test_in vars l = is_in_range vars (test_of l.guard)

-- whether a command leads from some places to others, and whether the guard of a line holds at some places
abbrev pub leads_to : List ℕ → List ℕ → List ℕ → Command → Bool
leads_to sizes from to c = holds_at (test_of c.guard) from && allows sizes c.action from to

abbrev pub holds_there : List ℕ → PropLine → Bool
holds_there from l = holds_at (test_of l.guard) from

-- what stands at a place in both of two rows
abbrev pub both : List Bool → List Bool → List Bool
both (a ∷ some) (b ∷ others) = (a && b) ∷ both some others
both _ _ = []

-- the weights whose tests pass
abbrev pub picked : List ℕ → List Bool → List ℕ
picked (w ∷ weights) (t ∷ tests) = if t then w ∷ picked weights tests else picked weights tests
picked _ _ = []

-- codes joined one after the other, and then with another one
abbrev pub joined_onto : Operations → ℕ → List ℕ → ℕ
joined_onto o base [] = base
joined_onto o base (code ∷ codes) = o.join code (joined_onto o base codes)

-- the weights from a place on whose tests pass, joined with another one
unfoldable pub joined_from : Operations → ℕ → List ℕ → List Bool → ℕ → ℕ
joined_from o base weights tests i = joined_onto o base (picked (drop i weights) (drop i tests))
