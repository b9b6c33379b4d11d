-- What a call of `run` does, in eight parts. Outcomes are spoken of where the shelf tells its files, and the bytes of out and err
-- where these tell them.
use Rattle.std.specs.Prelude.{◌≡◌, ◌≢◌, ◌⊎◌, ⊤, ℕ, false, List, None, IfSome, MatchOption}
use Rattle.xc_base.specs.Shelves.{Shelved, HasRisen, has_risen}
use Rattle.xc_base.specs.Sinks.{Sunk, AddsWhole, AddsFront, AddsNothing, IsCalm}
use Rattle.xc_base.specs.declared.shelf.File.{File}
use Rattle.xc_words.specs.Requests.{request_of}
use Rattle.xc_lines.specs.Texts.{words_line, read_line, write_line, memory_line}
use Rattle.xc_lines.specs.declared.status.Status.{Status}
use Rattle.xc_lines.specs.declared.status.Status.TheVariants.{Done, No, Words, Refused, ReadFault, WriteFault, Memory}
use Rattle.xc_course.specs.Courses.{Outcome, Absent, Refusal, Served, IsRefusal, IsServed}
use Rattle.xc_course.specs.Loads.{FailedOnce, KeepsOrFails, TellsSame}
use Rattle.xc_course.specs.Trees.{Happens}
use Rattle.xc_course.specs.Items.{GetsAll, GetsPart, GetsPartOrAll}
use Rattle.xc_top.specs.Requests.{ComesOfWords, IsOutcome, course_of}

-- A call: the words, what is known of the shelf, of out and of err before and after it, and the status.
pub record Call : Type 0 where
  pub words : List (List ℕ)
  pub shelf : Shelved
  pub shelf_after : Shelved
  pub out : Sunk
  pub out_after : Sunk
  pub err : Sunk
  pub err_after : Sunk
  pub status : Status

-- a call, as the clauses of `run` give it
abbrev pub called : List (List ℕ) → Shelved → Shelved → Sunk → Sunk → Sunk → Sunk → Status → Call
called words shelf shelf_after out out_after err err_after status = record { words = words; shelf = shelf; shelf_after = shelf_after; out = out; out_after = out_after; err = err; err_after = err_after; status = status }

-- P holds of the outcome of the words, where the shelf tells its files
abbrev pub ForOutcome : List (List ℕ) → Shelved → (Outcome → Type 0) → Type 0
ForOutcome words shelf P = IfSome shelf.told (λ told. (outcome : Outcome) → IsOutcome words told.files outcome → P outcome)

-- P holds of some outcome that the words have where each load finds some files
pub record ForSome (words : List (List ℕ)) (P : Outcome → Type 0) : Type 0 where
  pub moments : ℕ → List File
  pub outcome : Outcome
  pub comes : ComesOfWords words moments outcome
  pub holds : P outcome

-- P holds of the outcome where the shelf tells its files, and over every shelf of some outcome
pub record Comes (words : List (List ℕ)) (shelf : Shelved) (P : Outcome → Type 0) : Type 0 where
  pub told : ForOutcome words shelf P
  pub may : ForSome words P

-- nothing is written to out
abbrev pub WritesNothing : Call → Type 0
WritesNothing call = AddsNothing call.out.bytes call.out_after.bytes

-- err got the line, or a prefix of it where one of its counts rose
pub record GetsLine (line : List ℕ) (old new : Sunk) : Type 0 where
  pub prefix : AddsFront line old.bytes new.bytes
  pub whole : has_risen old.faults new.faults ≡ false → has_risen old.wants new.wants ≡ false → AddsWhole line old.bytes new.bytes

-- The status is Words exactly where the words are no request, unless memory ran out; and then nothing is written to out.
pub record AnswersNoRequest (call : Call) : Type 0 where
  pub only : call.status ≡ Words → request_of call.words ≡ None
  pub always : request_of call.words ≡ None → call.status ≢ Memory → call.status ≡ Words
  pub out : call.status ≡ Words → WritesNothing call

-- Where the status is Refused, so is the outcome, with the line that err gets; nothing is written to out.
pub record AnswersRefusal (call : Call) : Type 0 where
  pub only : call.status ≡ Refused → Comes call.words call.shelf (IsRefusal (λ line. GetsLine line call.err call.err_after))
  pub out : call.status ≡ Refused → WritesNothing call

-- Where the status is Done or No, the outcome is served with it, and out gets a text of each item, one behind the other; no put
-- failed.
pub record AnswersService (call : Call) : Type 0 where
  pub served : (call.status ≡ Done) ⊎ (call.status ≡ No) → Comes call.words call.shelf (IsServed (λ status items. (status ≡ call.status) × GetsAll call.out call.out_after items))
  pub calm : (call.status ≡ Done) ⊎ (call.status ≡ No) → IsCalm call.out call.out_after

-- Where the status is ReadFault, the shelf's count of faults rose, by one failed load that err's line names, and nothing is
-- written to out.
pub record AnswersReadFault (call : Call) : Type 0 where
  pub counted : call.status ≡ ReadFault → HasRisen call.shelf.faults call.shelf_after.faults
  pub once : call.status ≡ ReadFault → MatchOption (request_of call.words) ⊥ (λ request. FailedOnce (Happens (course_of request)) call.shelf call.shelf_after (λ name. GetsLine (read_line name) call.err call.err_after))
  pub out : call.status ≡ ReadFault → WritesNothing call

-- Where the status is WriteFault, out's count of faults rose, the outcome is served, and out gets its first items, but not all, and a
-- proper prefix of a text of the next item at most.
pub record AnswersWriteFault (call : Call) : Type 0 where
  pub counted : call.status ≡ WriteFault → HasRisen call.out.faults call.out_after.faults
  pub part : call.status ≡ WriteFault → Comes call.words call.shelf (IsServed (λ status items. GetsPart call.out call.out_after items))

-- of a served outcome out gets such a part or all at most, and else nothing
abbrev pub GetsAtMost : Sunk → Sunk → Outcome → Type 0
GetsAtMost out out_after (Served status items) = GetsPartOrAll out out_after items
GetsAtMost out out_after _ = AddsNothing out.bytes out_after.bytes

-- Where memory ran out, out gets of a served outcome such a part or all at most, and nothing where nothing was asked. Over a shelf
-- that tells no files out gets nothing, or such a part where each load finds some files. No put failed.
pub record AnswersMemory (call : Call) : Type 0 where
  pub asked : call.status ≡ Memory → ForOutcome call.words call.shelf (GetsAtMost call.out call.out_after)
  pub unasked : call.status ≡ Memory → request_of call.words ≡ None → WritesNothing call
  pub may : call.status ≡ Memory → WritesNothing call ⊎ ForSome call.words (IsServed (λ status items. GetsPartOrAll call.out call.out_after items))
  pub calm : call.status ≡ Memory → call.out_after.faults ≡ call.out.faults

-- the status that an outcome has where nothing fails
abbrev pub status_of : Outcome → Status
status_of (Absent name) = ReadFault
status_of (Refusal line) = Refused
status_of (Served status items) = status

-- No call gives up: while the shelf and out count no fault, it ends as its outcome says, unless memory runs out. A load of a name
-- that is not held ends it as a read fault, whatever was counted.
pub record IsComplete (call : Call) : Type 0 where
  pub steady : has_risen call.shelf.faults call.shelf_after.faults ≡ false → has_risen call.out.faults call.out_after.faults ≡ false → call.status ≢ Memory → ForOutcome call.words call.shelf (λ outcome. call.status ≡ status_of outcome)
  pub absent : call.status ≢ Memory → ForOutcome call.words call.shelf (λ outcome. (name : List ℕ) → outcome ≡ Absent name → call.status ≡ ReadFault)

-- Nothing is written to err where the request is served, and else one line by the status. That of a refusal is in `AnswersRefusal`, and
-- that of a read fault in `AnswersReadFault`.
abbrev pub GetsLineOf : Sunk → Sunk → Status → Type 0
GetsLineOf err err_after Words = GetsLine words_line err err_after
GetsLineOf err err_after WriteFault = GetsLine write_line err err_after
GetsLineOf err err_after Memory = GetsLine memory_line err err_after
GetsLineOf err err_after Refused = ⊤
GetsLineOf err err_after ReadFault = ⊤
GetsLineOf err err_after _ = AddsNothing err.bytes err_after.bytes

-- Err gets the line of the status and nothing else, and the files stay as they were. The failed names stay too, but for the one name
-- of a load that is reached, where the status is ReadFault or Memory.
pub record KeepsTheRest (call : Call) : Type 0 where
  pub line : GetsLineOf call.err call.err_after call.status
  pub files : TellsSame call.shelf.told call.shelf_after.told
  pub loads : call.status ≢ ReadFault → call.status ≢ Memory → call.shelf_after.told ≡ call.shelf.told
  pub wants : call.status ≡ Memory → MatchOption (request_of call.words) (call.shelf_after.told ≡ call.shelf.told) (λ request. KeepsOrFails (Happens (course_of request)) call.shelf call.shelf_after)
