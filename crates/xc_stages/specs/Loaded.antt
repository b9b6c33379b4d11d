-- Files that were loaded, cut and read, and what stops this.
use Rattle.std.specs.Prelude.{◌≡◌, ◌≤◌, ◌⊎◌, ℕ, List, [], ◌∷◌, ◌++◌, None, option_map, MatchOption, Result}
use Rattle.std.specs.String.{string_bytes}
use Rattle.xc_base.specs.Formats.{Row, Format, IsFirstFault}
use Rattle.xc_base.specs.Lines.{text_rows}
use Rattle.xc_base.specs.Shelves.{Told, Shelved, HasRisen, IsAbsentIfSteady}
use Rattle.xc_base.specs.Sinks.{Sunk}
use Rattle.xc_base.specs.Text.{text_fault}
use Rattle.xc_base.specs.declared.fault.FileFault.{FileFault}
use Rattle.xc_lattice.specs.LatticeFiles.{Verdict, Unlawful, Lawful, IsVerdict}
use Rattle.xc_lattice.specs.Values.{value_of as lattice_of}
use Rattle.xc_lines.specs.Texts.{read_line, text_line, fault_line}
use Rattle.xc_lines.specs.declared.halt.Halt.{Halt}
use Rattle.xc_lines.specs.declared.halt.Halt.TheVariants.{Words, Refused, ReadFault, WriteFault, Memory}
use Rattle.xc_lines.specs.declared.passed.Passed.{Passed}
use Rattle.xc_course.specs.Trees.{Tree, OpenViewpoints}
use Rattle.xc_course.specs.Works.{Works}
use Rattle.xc_merge.specs.Merges.{Viewpoint}
use Rattle.xc_stages.specs.declared.lattices.Judged.{Judged}
use Rattle.xc_stages.specs.declared.lattices.Judged.TheVariants as judged

-- where files are told, the failed names grew by that one
abbrev pub AddsFailed : List ℕ → Shelved → Shelved → Type 0
AddsFailed name shelf shelf_after = shelf_after.told ≡ option_map (λ (told : Told). record told { failed = told.failed ++ name ∷ [] }) shelf.told

-- A load failed of that name, which a steady shelf does not hold: its line for err names it, and where files are told so are the
-- failed names.
pub record FailedAt (name : List ℕ) (shelf shelf_after : Shelved) (line : List ℕ) : Type 0 where
  pub named : line ≡ read_line name
  pub counted : HasRisen shelf.faults shelf_after.faults
  pub absent : IsAbsentIfSteady shelf.told name
  pub told : AddsFailed name shelf shelf_after

-- why a file is not loaded
abbrev pub IsLoadHalt : List ℕ → Shelved → Shelved → Halt → Type 0
IsLoadHalt name shelf shelf_after (ReadFault line) = FailedAt name shelf shelf_after (string_bytes line)
IsLoadHalt name shelf shelf_after Memory = (shelf_after.told ≡ shelf.told) ⊎ (AddsFailed name shelf shelf_after × IsAbsentIfSteady shelf.told name)
IsLoadHalt _ _ _ _ = ⊥

-- the count of faults does not fall
abbrev pub CountsOn : Shelved → Shelved → Type 0
CountsOn before now = before.faults ≤ now.faults

-- a text that is cut to those rows
pub record IsCut (limit : ℕ) (bytes : List ℕ) (rows : List Row) : Type 0 where
  pub sound : text_fault limit bytes ≡ None
  pub same : rows ≡ text_rows bytes

-- why a text is not cut
abbrev pub IsCutHalt : ℕ → List ℕ → List ℕ → Halt → Type 0
IsCutHalt limit name bytes (Refused line) = MatchOption (text_fault limit bytes) ⊥ (λ fault. string_bytes line ≡ text_line name fault)
IsCutHalt limit name bytes Memory = Unit {0}
IsCutHalt _ _ _ _ = ⊥

-- a step of the work that loads nothing stops: with a refusal, of whose line P holds, or since memory ran out
abbrev pub IsRefusalHalt : (List ℕ → Type 0) → Halt → Type 0
IsRefusalHalt P (Refused line) = P (string_bytes line)
IsRefusalHalt P Memory = Unit {0}
IsRefusalHalt _ _ = ⊥

-- the rows have a first fault, and the line is that of the file
pub record IsFaultRefusal {S V : Type 0} (format : Format S V) (name : List ℕ) (rows : List Row) (line : List ℕ) : Type 0 where
  pub fault : FileFault
  pub first : IsFirstFault format rows fault
  pub told : line ≡ fault_line name fault

-- the text that a file of these bytes has can be cut, and P holds of its rows and of what was found in them
pub record IsRead {X : Type 0} (P : List Row → X → Type 0) (limit : ℕ) (bytes : List ℕ) (x : X) : Type 0 where
  pub sound : text_fault limit bytes ≡ None
  pub read : P (text_rows bytes) x

-- Why nothing is found in a file of these bytes: the line is that of its text's fault, or else P holds of its rows and the line.
abbrev pub IsUnread : (List Row → List ℕ → Type 0) → ℕ → List ℕ → List ℕ → Halt → Type 0
IsUnread P limit name bytes (Refused line) = MatchOption (text_fault limit bytes) (P (text_rows bytes) (string_bytes line)) (λ fault. string_bytes line ≡ text_line name fault)
IsUnread P limit name bytes Memory = Unit {0}
IsUnread _ _ _ _ _ = ⊥

-- the verdict that the code's is of
abbrev pub verdict_of : Judged → Verdict
verdict_of (judged.Broken law elements) = Unlawful law elements
verdict_of (judged.Lawful lattice) = Lawful (lattice_of lattice)

-- the code's verdict is that of the rows
abbrev pub IsVerdictOf : List Row → Judged → Type 0
IsVerdictOf rows judged = IsVerdict rows (verdict_of judged)

-- The viewpoints of the first files were found, and others are left: what the work behind those that are left comes to, the whole
-- comes to.
pub record OpensOn (files left : List (List ℕ)) (found : List Viewpoint) (before now : Shelved) : Type 0 where
  pub by : (next : List Viewpoint → Tree) (after : Shelved) (out out_after : Sunk) (result : Result Passed Halt) → Works (OpenViewpoints left found next) now after out out_after result → Works (OpenViewpoints files [] next) before after out out_after result
