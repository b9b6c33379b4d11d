-- What comes of the tokens of a guard, and of an action.
use Rattle.std.specs.Prelude.{◌≡◌, ◌-◌, ℕ, true, false, List, take, drop, Some, None}
use Rattle.xc_base.specs.Lines.{rows_in, row_at}
use Rattle.xc_base.specs.declared.lines.Lines.{Lines}
use Rattle.xc_expr.specs.Tests.{Test}
use Rattle.xc_expr.specs.Written.{Written, IsGuard, Assigned, IsAction}
use Rattle.xc_expr.specs.Resolving.{resolved, resolved_action, sets_twice}
use Rattle.xc_forms.specs.declared.domain.Domain.{Domain}
use Rattle.xc_expr.specs.declared.assign.Assign.{Assign}
use Rattle.xc_expr.specs.declared.fault.ExprFault.{ExprFault}
use Rattle.xc_expr.specs.declared.fault.ExprFault.TheVariants.{Grammar, Repeated, Unknown, Memory}

-- the tokens of a row from one place up to another
abbrev pub tokens_at : Lines → ℕ → ℕ → ℕ → List (List ℕ)
tokens_at lines row start end = take (end - start) (drop start (row_at (rows_in lines) row).tokens)

-- the tokens are a guard, of which the names stand for the test
pub record IsTest (vars : List Domain) (tokens : List (List ℕ)) (test : Test) : Type 0 where
  pub guard : Written
  pub spelled : IsGuard tokens guard
  pub known : resolved vars guard ≡ Some test

-- the tokens are a guard with a name that is not known
pub record IsUnknownGuard (vars : List Domain) (tokens : List (List ℕ)) : Type 0 where
  pub guard : Written
  pub spelled : IsGuard tokens guard
  pub unknown : resolved vars guard ≡ None

-- why tokens are no guard with known names
abbrev pub IsGuardFault : List Domain → List (List ℕ) → ExprFault → Type 0
IsGuardFault vars tokens Grammar = (g : Written) → IsGuard tokens g → ⊥
IsGuardFault vars tokens Repeated = ⊥
IsGuardFault vars tokens Unknown = IsUnknownGuard vars tokens
IsGuardFault vars tokens Memory = Unit {0}

-- the tokens are an action that sets no variable twice, of which the names stand for the assignments
pub record AreAssigns (vars : List Domain) (tokens : List (List ℕ)) (assigns : List Assign) : Type 0 where
  pub action : List Assigned
  pub spelled : IsAction tokens action
  pub once : sets_twice action ≡ false
  pub known : resolved_action vars action ≡ Some assigns

-- the tokens are an action that sets a variable twice
pub record IsRepeatedAction (tokens : List (List ℕ)) : Type 0 where
  pub action : List Assigned
  pub spelled : IsAction tokens action
  pub twice : sets_twice action ≡ true

-- the tokens are an action with a name that is not known, and set no variable twice
pub record IsUnknownAction (vars : List Domain) (tokens : List (List ℕ)) : Type 0 where
  pub action : List Assigned
  pub spelled : IsAction tokens action
  pub once : sets_twice action ≡ false
  pub unknown : resolved_action vars action ≡ None

-- why tokens are no action with known names
abbrev pub IsActionFault : List Domain → List (List ℕ) → ExprFault → Type 0
IsActionFault vars tokens Grammar = (action : List Assigned) → IsAction tokens action → ⊥
IsActionFault vars tokens Repeated = IsRepeatedAction tokens
IsActionFault vars tokens Unknown = IsUnknownAction vars tokens
IsActionFault vars tokens Memory = Unit {0}
