-- What follows from the definitions, as statements that public functions carry.
use Rattle.std.specs.Prelude.{◌≡◌, ◌↔◌, ℕ, true, false, List, Some}
use Rattle.xc_forms.specs.Variables.{are_fit}
use Rattle.xc_expr.specs.Tests.{Test, is_in_range}
use Rattle.xc_expr.specs.Actions.{is_action_in_range}
use Rattle.xc_expr.specs.Written.{Written, IsGuard, Assigned, IsAction}
use Rattle.xc_expr.specs.Resolving.{resolved, resolved_action, sets_twice}
use Rattle.xc_expr.specs.Reading.{guard_in, action_in}
use Rattle.xc_forms.specs.declared.domain.Domain.{Domain}
use Rattle.xc_expr.specs.declared.assign.Assign.{Assign}

-- tokens are the guard, or the action, that is read, and no other
abbrev pub GuardsAreRead : Type 0
GuardsAreRead = (tokens : List (List ℕ)) (g : Written) → (guard_in tokens ≡ Some g) ↔ IsGuard tokens g

abbrev pub ActionsAreRead : Type 0
ActionsAreRead = (tokens : List (List ℕ)) (action : List Assigned) → (action_in tokens ≡ Some action) ↔ IsAction tokens action

-- no tokens are two guards, or two actions
abbrev pub GuardsAreUnique : Type 0
GuardsAreUnique = (tokens : List (List ℕ)) (g h : Written) → IsGuard tokens g → IsGuard tokens h → g ≡ h

abbrev pub ActionsAreUnique : Type 0
ActionsAreUnique = (tokens : List (List ℕ)) (action other : List Assigned) → IsAction tokens action → IsAction tokens other → action ≡ other

-- a guard with known names is in range, and so is an action that sets no variable twice
abbrev pub KnownGuardsAreInRange : Type 0
KnownGuardsAreInRange = (vars : List Domain) (g : Written) (test : Test) → are_fit vars ≡ true → resolved vars g ≡ Some test → is_in_range vars test ≡ true

abbrev pub KnownActionsAreInRange : Type 0
KnownActionsAreInRange = (vars : List Domain) (action : List Assigned) (assigns : List Assign) → are_fit vars ≡ true → sets_twice action ≡ false → resolved_action vars action ≡ Some assigns → is_action_in_range vars assigns ≡ true
