-- What serving a request by its course comes to: the one clause of each mode. No clause of `run` rests on these words.
use Rattle.std.specs.Prelude.{◌≡◌, ◌⊎◌, ℕ, List, Option, IfSome, Result, Ok, Err}
use Rattle.std.specs.String.{string_bytes}
use Rattle.xc_base.specs.Shelves.{Told, Shelved, HasRisen}
use Rattle.xc_base.specs.Sinks.{Sunk, AddsNothing, IsCalm}
use Rattle.xc_base.specs.declared.shelf.File.{File}
use Rattle.xc_lines.specs.Halts.{passed_status}
use Rattle.xc_lines.specs.Texts.{read_line}
use Rattle.xc_lines.specs.declared.halt.Halt.{Halt}
use Rattle.xc_lines.specs.declared.halt.Halt.TheVariants.{Words, Refused, ReadFault, WriteFault, Memory}
use Rattle.xc_lines.specs.declared.passed.Passed.{Passed}
use Rattle.xc_course.specs.Items.{GetsAll, GetsPart, GetsPartOrAll}
use Rattle.xc_course.specs.Courses.{Course, Ends, Outcome, Refusal, IsServed, always}
use Rattle.xc_course.specs.Loads.{FailedOnce, KeepsOrFails, TellsSame}
use Rattle.xc_course.specs.Trees.{Tree, Happens}

-- where each load finds some files, the course ends with that outcome
pub record CanEnd (tasks : Course) (outcome : Outcome) : Type 0 where
  pub moments : ℕ → List File
  pub ended : tasks moments (Ends outcome)

-- the same, and where files are told the course over them does
abbrev pub EndsWith : Course → Shelved → Outcome → Type 0
EndsWith tasks shelf outcome = CanEnd tasks outcome × IfSome shelf.told (λ told. tasks (always told.files) (Ends outcome))

-- the course ends with an outcome of which P holds
pub record EndsSo (tasks : Course) (shelf : Shelved) (P : Outcome → Type 0) : Type 0 where
  pub outcome : Outcome
  pub ends : EndsWith tasks shelf outcome
  pub holds : P outcome

-- what the work came to, by its result
abbrev pub CameTo : Course → Shelved → Shelved → Sunk → Sunk → Result Passed Halt → Type 0
CameTo tasks shelf shelf_after out out_after (Ok passed) = EndsSo tasks shelf (IsServed (λ status items. (status ≡ passed_status passed) × GetsAll out out_after items)) × IsCalm out out_after
CameTo tasks shelf shelf_after out out_after (Err (Refused line)) = EndsWith tasks shelf (Refusal (string_bytes line)) × AddsNothing out.bytes out_after.bytes
CameTo tasks shelf shelf_after out out_after (Err (ReadFault line)) = FailedOnce tasks shelf shelf_after (λ name. string_bytes line ≡ read_line name) × HasRisen shelf.faults shelf_after.faults × AddsNothing out.bytes out_after.bytes
CameTo tasks shelf shelf_after out out_after (Err WriteFault) = EndsSo tasks shelf (IsServed (λ status items. GetsPart out out_after items)) × HasRisen out.faults out_after.faults
CameTo tasks shelf shelf_after out out_after (Err Memory) =
    KeepsOrFails tasks shelf shelf_after × (AddsNothing out.bytes out_after.bytes ⊎ EndsSo tasks shelf (IsServed (λ status items. GetsPartOrAll out out_after items))) × (out_after.faults ≡ out.faults)
CameTo tasks shelf shelf_after out out_after (Err Words) = ⊥

-- but where a load failed, and where memory ran out, the shelf tells what it told before
abbrev pub LeavesOn : Option Told → Option Told → Halt → Type 0
LeavesOn old new (ReadFault line) = Unit {0}
LeavesOn old new Memory = Unit {0}
LeavesOn old new _ = new ≡ old

-- the same of a result
abbrev pub LeavesTold : {X : Type 0} → Option Told → Option Told → Result X Halt → Type 0
LeavesTold old new (Ok x) = new ≡ old
LeavesTold old new (Err halt) = LeavesOn old new halt

-- What the work came to; and the files stay, and the failed names too but where a load failed or memory ran out.
pub record Works (tree : Tree) (shelf shelf_after : Shelved) (out out_after : Sunk) (result : Result Passed Halt) : Type 0 where
  pub came : CameTo (Happens tree) shelf shelf_after out out_after result
  pub kept : LeavesTold shelf.told shelf_after.told result
  pub files : TellsSame shelf.told shelf_after.told

-- A stage found x: whatever comes behind it, what that comes to the whole comes to.
abbrev pub GoesOn : {X : Type 0} → ((X → Tree) → Tree) → Shelved → Shelved → X → Type 0
GoesOn {X} stage before now x =
    (next : X → Tree) (after : Shelved) (out out_after : Sunk) (result : Result Passed Halt) → Works (next x) now after out out_after result → Works (stage next) before after out out_after result

-- A stage stopped: whatever comes behind it, the whole came to that, and nothing is written.
abbrev pub Stops : {X : Type 0} → ((X → Tree) → Tree) → Shelved → Shelved → Halt → Type 0
Stops {X} stage before now halt = (next : X → Tree) (out : Sunk) → Works (stage next) before now out out (Err halt)

-- the same of a stage that loads nothing, over every shelf
abbrev pub GoesOnAlways : {X : Type 0} → ((X → Tree) → Tree) → X → Type 0
GoesOnAlways {X} stage x = (now : Shelved) → GoesOn stage now now x

abbrev pub StopsAlways : {X : Type 0} → ((X → Tree) → Tree) → Halt → Type 0
StopsAlways {X} stage halt = (now : Shelved) → Stops stage now now halt

-- what the last stage came to, over every shelf
abbrev pub WorksAlways : Tree → Sunk → Sunk → Result Passed Halt → Type 0
WorksAlways tree out out_after result = (now : Shelved) → Works tree now now out out_after result
