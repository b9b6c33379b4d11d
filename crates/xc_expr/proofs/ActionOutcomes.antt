-- What comes of tokens, from what comes of the action that they are.
use Rattle.std.proofs.Common.{◌≡◌, ℕ, List, map, Option, Some, None, sym, ap, ◌∙◌}
use Rattle.std.specs.Option.{option_map}
use Rattle.xc_expr.proofs.ActionSpelling.{action_sound, action_complete}
use Rattle.xc_expr.specs.ActionOutcomes.{AreKnown, IsNameFault}
use Rattle.xc_expr.specs.Outcomes.{AreAssigns, IsActionFault}
use Rattle.xc_expr.specs.Reading.{action_in}
use Rattle.xc_expr.specs.Written.{Assigned, IsAction, set}
use Rattle.xc_forms.specs.declared.domain.Domain.{Domain}
use Rattle.xc_expr.specs.declared.assign.Assign.{Assign}
use Rattle.xc_expr.specs.declared.setting.Setting.{Setting}
use Rattle.xc_expr.specs.declared.fault.ExprFault.{ExprFault}
use Rattle.xc_expr.specs.declared.fault.ExprFault.TheVariants.{Grammar, Repeated, Unknown, Memory}

pub are_assigns : (vars : List Domain) (tokens : List (List ℕ)) (action : List Assigned) (assigns : List Assign) → Some action ≡ action_in tokens → AreKnown vars action assigns → AreAssigns vars tokens assigns
are_assigns vars tokens action assigns e h = record { action = action; spelled = action_sound tokens action (sym e); once = h.once; known = h.known }

pub is_fault : (vars : List Domain) (tokens : List (List ℕ)) (action : List Assigned) (fault : ExprFault) → Some action ≡ action_in tokens → IsNameFault vars action fault → IsActionFault vars tokens fault
is_fault vars tokens action Grammar e h = absurd h
is_fault vars tokens action Repeated e h = record { action = action; spelled = action_sound tokens action (sym e); twice = h }
is_fault vars tokens action Unknown e h = record { action = action; spelled = action_sound tokens action (sym e); once = h.once; unknown = h.unknown }
is_fault vars tokens action Memory e h = tt

-- where no action is read the tokens are none
pub is_no_action : (tokens : List (List ℕ)) (read : Option (List Setting)) → option_map (map set) read ≡ action_in tokens → read ≡ None → (action : List Assigned) → IsAction tokens action → ⊥
is_no_action tokens read e none action h =
    let nothing : None ≡ action_in tokens = sym (ap (option_map (map set)) none) ∙ e in
    let something : action_in tokens ≡ Some action = action_complete tokens action h in
    cc
