-- Courses of work over files: what each load finds, and how a course may end.
use Rattle.std.specs.Prelude.{◌≡◌, ◌⊎◌, ℕ, suc, List, MatchOption}
use Rattle.xc_base.specs.Formats.{Row, Format, IsAccepted, IsFirstFault}
use Rattle.xc_base.specs.Lines.{text_rows}
use Rattle.xc_base.specs.Shelves.{held}
use Rattle.xc_base.specs.Text.{text_fault}
use Rattle.xc_base.specs.declared.fault.FileFault.{FileFault}
use Rattle.xc_base.specs.declared.shelf.File.{File}
use Rattle.xc_lines.specs.Texts.{text_line, fault_line}
use Rattle.xc_lines.specs.declared.status.Status.{Status}
use Rattle.xc_course.specs.Items.{Item}

-- A load is reached of a name that is not held; or a task refuses, with the line for err; or the request is served, with a status
-- and the items for out.
pub data Outcome : Type 0 where
  Absent : List ℕ → Outcome
  Refusal : List ℕ → Outcome
  Served : Status → List Item → Outcome

-- the outcome is a refusal with a line of which P holds
abbrev pub IsRefusal : (List ℕ → Type 0) → Outcome → Type 0
IsRefusal P (Refusal line) = P line
IsRefusal _ _ = ⊥

-- the outcome is served, and P holds of its status and its items
abbrev pub IsServed : (Status → List Item → Type 0) → Outcome → Type 0
IsServed P (Served status items) = P status items
IsServed _ _ = ⊥

-- What may happen in a course: it ends with an outcome, or a load of that name is reached.
pub data Event : Type 0 where
  Ends : Outcome → Event
  Loading : List ℕ → Event

-- A course is told by the files that each load finds, one load after another, and what may happen then.
abbrev pub Course : Type 1
Course = (ℕ → List File) → Event → Type 0

-- what the loads behind the first find
abbrev pub rest : (ℕ → List File) → ℕ → List File
rest moments k = moments (suc k)

-- where the files stay, each load finds the same
abbrev pub always : List File → ℕ → List File
always files k = files

-- A load: it is reached, and where the name is not held that is the outcome, and else the work goes on with the bytes.
abbrev pub Loads : List ℕ → (List ℕ → Course) → Course
Loads name next moments event = (event ≡ Loading name) ⊎ MatchOption (held (moments 0) name) (event ≡ Ends (Absent name)) (λ bytes. next bytes (rest moments) event)

-- A cut, where a file may have that many bytes: a fault of the text is refused, and else the work goes on with the rows.
abbrev pub Cuts : ℕ → List ℕ → (List Row → Course) → List ℕ → Course
Cuts limit name next bytes moments event = MatchOption (text_fault limit bytes) (next (text_rows bytes) moments event) (λ fault. event ≡ Ends (Refusal (text_line name fault)))

-- a load of a file and the cutting of its text
abbrev pub Opens : ℕ → List ℕ → (List Row → Course) → Course
Opens limit name next = Loads name (Cuts limit name next)

-- A file of a format: its first fault is refused, and else the work goes on with what the file says.
pub data Reads {S V : Type 0} (format : Format S V) (name : List ℕ) (next : V → Course) (rows : List Row) (moments : ℕ → List File) (event : Event) : Type 0 where
  faulty : (fault : FileFault) → IsFirstFault format rows fault → event ≡ Ends (Refusal (fault_line name fault)) → Reads format name next rows moments event
  accepted : (value : V) → IsAccepted format rows value → next value moments event → Reads format name next rows moments event
