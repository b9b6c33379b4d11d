-- What comes of the names of an action.
use Rattle.std.specs.Prelude.{◌≡◌, true, false, List, Some, None}
use Rattle.xc_expr.specs.Written.{Assigned}
use Rattle.xc_expr.specs.Resolving.{resolved_action, sets_twice}
use Rattle.xc_forms.specs.declared.domain.Domain.{Domain}
use Rattle.xc_expr.specs.declared.assign.Assign.{Assign}
use Rattle.xc_expr.specs.declared.fault.ExprFault.{ExprFault}
use Rattle.xc_expr.specs.declared.fault.ExprFault.TheVariants.{Grammar, Repeated, Unknown, Memory}

-- no variable is set twice, and the names stand for the assignments
pub record AreKnown (vars : List Domain) (action : List Assigned) (assigns : List Assign) : Type 0 where
  pub once : sets_twice action ≡ false
  pub known : resolved_action vars action ≡ Some assigns

-- no variable is set twice, and a name is not known
pub record IsUnknown (vars : List Domain) (action : List Assigned) : Type 0 where
  pub once : sets_twice action ≡ false
  pub unknown : resolved_action vars action ≡ None

-- why names stand for no assignments
abbrev pub IsNameFault : List Domain → List Assigned → ExprFault → Type 0
IsNameFault vars action Grammar = ⊥
IsNameFault vars action Repeated = sets_twice action ≡ true
IsNameFault vars action Unknown = IsUnknown vars action
IsNameFault vars action Memory = Unit {0}
