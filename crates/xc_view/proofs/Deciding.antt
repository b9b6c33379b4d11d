-- The deciding function gives the statement that is due, where one is.
use Rattle.std.proofs.Common.{◌≡◌, ℕ, List, Option, Some, None, refl, subst}
use Rattle.xc_base.specs.Deciding.{Decides}
use Rattle.xc_view_lines.specs.ViewLines.{Statement}
use Rattle.xc_view_lines.specs.LineReading.{line}
use Rattle.xc_view_lines.proofs.LineReading.{none_is_not, given_some, line_sound, line_complete}
use Rattle.xc_view.specs.ViewFiles.{IsDue, is_due, view_format}
use Rattle.xc_view.specs.Deciding.{placed, decide}

-- where it is due
placed_sound : (before : List Statement) (tokens : List (List ℕ)) (o : Option Statement) (s : Statement) → line tokens ≡ o → placed before o ≡ Some s → IsDue before tokens s
placed_sound before tokens None s e h = absurd (none_is_not s h)
placed_sound before tokens (Some r) s e h =
    let parts = given_some (is_due before r) r s h in
    subst (IsDue before tokens) parts.1 (record { stated = line_sound tokens r e; placed = parts.0 })

-- what is decided is due
decide_sound : (before : List Statement) (tokens : List (List ℕ)) (s : Statement) → decide before tokens ≡ Some s → IsDue before tokens s
unfolding decide
decide_sound before tokens s h = placed_sound before tokens (line tokens) s refl h

-- what is due is decided
decide_complete : (before : List Statement) (tokens : List (List ℕ)) (s : Statement) → IsDue before tokens s → decide before tokens ≡ Some s
unfolding decide
decide_complete before tokens s h = rw (line_complete h.stated, h.placed)

-- the function decides the format
pub decides : Decides view_format decide
decides = record { sound = decide_sound; complete = decide_complete }
