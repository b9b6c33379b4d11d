-- What is known of guards and actions.
use Rattle.std.proofs.Common.{◌≡◌, ℕ, false, List, codes}
use Rattle.xc_base.specs.Names.{is_among}
use Rattle.xc_expr.specs.Written.{Written, Sum, IsGuard, depth_limit}
use Rattle.xc_expr.specs.Laws.{GuardsAreRead, ActionsAreRead, KnownGuardsAreInRange, KnownActionsAreInRange}
use Rattle.xc_expr.proofs.GuardReading.{guard_read}
use Rattle.xc_expr.proofs.GuardRange.{resolved_in_range}
use Rattle.xc_expr.proofs.GuardWords.{no_do as no_do_spelled}
use Rattle.xc_expr.proofs.ActionSpelling.{actions_are_read}
use Rattle.xc_expr.proofs.KnownActions.{known_action_in_range}

-- guards are read as they are spelled
pub guards_read : GuardsAreRead
guards_read = guard_read

-- and so are actions
pub actions_read : ActionsAreRead
actions_read = actions_are_read

-- guards with known names are in range
pub guards_in_range : KnownGuardsAreInRange
guards_in_range = resolved_in_range

-- and so are actions
pub actions_in_range : KnownActionsAreInRange
actions_in_range = known_action_in_range

-- no token of a guard is `do`
pub no_do : (tokens : List (List ℕ)) (g : Written) → IsGuard tokens g → is_among tokens (codes "do") ≡ false
no_do tokens g h = no_do_spelled Sum depth_limit tokens g h
