-- What holds of the prints of guards and actions, as statements that public functions carry.
use Rattle.std.specs.Prelude.{◌≡◌, ℕ, true, List}
use Rattle.std.specs.List.{list_all}
use Rattle.xc_forms.specs.Variables.{are_fit}
use Rattle.xc_expr.specs.Tests.{Test, is_in_range}
use Rattle.xc_expr.specs.Actions.{is_action_in_range}
use Rattle.xc_expr.specs.Outcomes.{IsTest, AreAssigns}
use Rattle.xc_expr_text.specs.Printing.{named_guard, named_action, guard_tokens}
use Rattle.xc_expr_text.specs.Writable.{has_fit_names, is_writable_guard, is_writable_action}
use Rattle.xc_expr_text.specs.LineParts.{IsLinePart, IsNoLonger}
use Rattle.xc_expr.specs.Written.{Written, Assigned, has_names, action_tokens}
use Rattle.xc_forms.specs.declared.domain.Domain.{Domain}
use Rattle.xc_expr.specs.declared.assign.Assign.{Assign}

-- the tokens of the print of a guard that can be written are that guard
abbrev pub PrintedGuardsAreRead : Type 0
PrintedGuardsAreRead =
    (vars : List Domain) (test : Test) → are_fit vars ≡ true → is_in_range vars test ≡ true → is_writable_guard vars test ≡ true
    → IsTest vars (guard_tokens (named_guard vars test)) test

abbrev pub PrintedActionsAreRead : Type 0
PrintedActionsAreRead =
    (vars : List Domain) (assigns : List Assign) → are_fit vars ≡ true → is_action_in_range vars assigns ≡ true → is_writable_action vars assigns ≡ true
    → AreAssigns vars (action_tokens (named_action vars assigns)) assigns

-- a guard that tokens are can be written, and so can an action
abbrev pub ReadGuardsAreWritable : Type 0
ReadGuardsAreWritable = (vars : List Domain) (tokens : List (List ℕ)) (test : Test) → IsTest vars tokens test → is_writable_guard vars test ≡ true

abbrev pub ReadActionsAreWritable : Type 0
ReadActionsAreWritable = (vars : List Domain) (tokens : List (List ℕ)) (assigns : List Assign) → AreAssigns vars tokens assigns → is_writable_action vars assigns ≡ true

-- no tokens are two tests, or two lists of assignments
abbrev pub TestsAreUnique : Type 0
TestsAreUnique = (vars : List Domain) (tokens : List (List ℕ)) (test other : Test) → IsTest vars tokens test → IsTest vars tokens other → test ≡ other

abbrev pub AssignsAreUnique : Type 0
AssignsAreUnique = (vars : List Domain) (tokens : List (List ℕ)) (assigns others : List Assign) → AreAssigns vars tokens assigns → AreAssigns vars tokens others → assigns ≡ others

-- the tokens of a print can stand in a line, where the names are fit
abbrev pub GuardsAreLineParts : Type 0
GuardsAreLineParts = (g : Written) → has_fit_names g ≡ true → IsLinePart (guard_tokens g)

abbrev pub ActionsAreLineParts : Type 0
ActionsAreLineParts = (action : List Assigned) → list_all has_names action ≡ true → IsLinePart (action_tokens action)

-- a print is no longer than what was read: the tokens of an action are the same, and a guard can but lose brackets
abbrev pub NoPrintIsLonger : Type 0
NoPrintIsLonger = (vars : List Domain) (tokens : List (List ℕ)) (test : Test) → IsTest vars tokens test → IsNoLonger tokens (guard_tokens (named_guard vars test))

abbrev pub ActionsKeepTheirTokens : Type 0
ActionsKeepTheirTokens = (vars : List Domain) (tokens : List (List ℕ)) (assigns : List Assign) → AreAssigns vars tokens assigns → action_tokens (named_action vars assigns) ≡ tokens
