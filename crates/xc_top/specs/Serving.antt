-- What serving words did, as the parts of a call rest on it.
use Rattle.std.specs.Prelude.{◌≡◌, ◌⊎◌, ℕ, List, None, IsSome, MatchOption, Result, Ok, Err}
use Rattle.std.specs.String.{string_bytes}
use Rattle.xc_base.specs.Shelves.{Shelved, HasRisen}
use Rattle.xc_base.specs.Sinks.{Sunk, AddsNothing, IsCalm}
use Rattle.xc_words.specs.Requests.{request_of}
use Rattle.xc_lines.specs.Halts.{passed_status}
use Rattle.xc_lines.specs.Texts.{read_line}
use Rattle.xc_lines.specs.declared.halt.Halt.{Halt}
use Rattle.xc_lines.specs.declared.halt.Halt.TheVariants.{Words, Refused, ReadFault, WriteFault, Memory}
use Rattle.xc_lines.specs.declared.passed.Passed.{Passed}
use Rattle.xc_course.specs.Loads.{FailedOnce, KeepsOrFails, TellsSame}
use Rattle.xc_course.specs.Trees.{Happens}
use Rattle.xc_course.specs.Works.{LeavesTold}
use Rattle.xc_course.specs.Items.{GetsAll, GetsPart, GetsPartOrAll}
use Rattle.xc_course.specs.Courses.{IsRefusal, IsServed}
use Rattle.xc_top.specs.Calls.{Comes, ForOutcome, ForSome, GetsAtMost}
use Rattle.xc_top.specs.Requests.{course_of}

-- by the result: what the words ask for, their outcome, what a load did, and what out got
abbrev pub IsWorked : List (List ℕ) → Shelved → Shelved → Sunk → Sunk → Result Passed Halt → Type 0
IsWorked words shelf shelf_after out out_after (Ok passed) = IsSome (request_of words) × Comes words shelf (IsServed (λ status items. (status ≡ passed_status passed) × GetsAll out out_after items)) × IsCalm out out_after
IsWorked words shelf shelf_after out out_after (Err Words) = (request_of words ≡ None) × AddsNothing out.bytes out_after.bytes
IsWorked words shelf shelf_after out out_after (Err (Refused line)) = IsSome (request_of words) × Comes words shelf (IsRefusal (λ l. string_bytes line ≡ l)) × AddsNothing out.bytes out_after.bytes
IsWorked words shelf shelf_after out out_after (Err (ReadFault line)) =
    IsSome (request_of words) × MatchOption (request_of words) ⊥ (λ request. FailedOnce (Happens (course_of request)) shelf shelf_after (λ name. string_bytes line ≡ read_line name)) × HasRisen shelf.faults shelf_after.faults × AddsNothing out.bytes out_after.bytes
IsWorked words shelf shelf_after out out_after (Err WriteFault) = IsSome (request_of words) × HasRisen out.faults out_after.faults × Comes words shelf (IsServed (λ status items. GetsPart out out_after items))
IsWorked words shelf shelf_after out out_after (Err Memory) =
    ForOutcome words shelf (GetsAtMost out out_after) × (request_of words ≡ None → AddsNothing out.bytes out_after.bytes) × MatchOption (request_of words) (shelf_after.told ≡ shelf.told) (λ request. KeepsOrFails (Happens (course_of request)) shelf shelf_after)
    × (AddsNothing out.bytes out_after.bytes ⊎ ForSome words (IsServed (λ status items. GetsPartOrAll out out_after items))) × (out_after.faults ≡ out.faults)

-- that, and the files stay, and the failed names too but where a load failed or memory ran out
pub record Serves (words : List (List ℕ)) (shelf shelf_after : Shelved) (out out_after : Sunk) (result : Result Passed Halt) : Type 0 where
  pub worked : IsWorked words shelf shelf_after out out_after result
  pub kept : LeavesTold shelf.told shelf_after.told result
  pub files : TellsSame shelf.told shelf_after.told
