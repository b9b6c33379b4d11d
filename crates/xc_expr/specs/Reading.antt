-- Which guard, and which action, tokens are: functions that decide it.
use Rattle.std.specs.Prelude.{ℕ, if◌then◌else◌, List, [], Option, Some}
use Rattle.xc_grammar.specs.Reading.{tree_in}
use Rattle.xc_expr.specs.ActionReading.{is_skip, assignments_in}
use Rattle.xc_expr.specs.GuardReading.{guards, atom}
use Rattle.xc_expr.specs.Written.{Written, Assigned, depth_limit}

-- the guard that the tokens are, where they are one
unfoldable pub guard_in : List (List ℕ) → Option Written
guard_in tokens = tree_in guards atom depth_limit tokens

-- the action that the tokens are, where they are one
unfoldable pub action_in : List (List ℕ) → Option (List Assigned)
action_in tokens = if is_skip tokens then Some [] else assignments_in [] tokens
