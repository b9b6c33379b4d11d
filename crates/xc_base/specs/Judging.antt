-- That each file has one judgement, as statements that a public function carries.
use Rattle.std.specs.Prelude.{◌≡◌, ◌↔◌, ℕ, List, [], ◌⊎◌, Option, None, Ok, Err}
use Rattle.xc_base.specs.declared.fault.FileFault.{FileFault}
use Rattle.xc_base.specs.Formats.{Format, Row, AreStatements, IsAccepted, IsFirstFault}
use Rattle.xc_base.specs.Deciding.{file_of}

-- the rows are these statements, each faultless, and no part lacks
pub record AreWhole {S V : Type 0} (format : Format S V) (rows : List Row) (statements : List S) : Type 0 where
  pub read : AreStatements format [] rows statements
  pub whole : format.missing statements ≡ None

-- the deciding function gives the statements of a whole file, and the first fault of any other
abbrev pub GivesStatements : {S V : Type 0} → Format S V → (List S → List (List ℕ) → Option S) → Type 0
GivesStatements {S} format decide = (rows : List Row) (statements : List S) → (file_of format decide rows ≡ Ok statements) ↔ AreWhole format rows statements

abbrev pub GivesFaults : {S V : Type 0} → Format S V → (List S → List (List ℕ) → Option S) → Type 0
GivesFaults format decide = (rows : List Row) (fault : FileFault) → (file_of format decide rows ≡ Err fault) ↔ IsFirstFault format rows fault

-- rows are no two lists of statements
abbrev pub StatementsAreUnique : {S V : Type 0} → Format S V → Type 0
StatementsAreUnique {S} format = (rows : List Row) (statements others : List S) → AreStatements format [] rows statements → AreStatements format [] rows others → statements ≡ others

-- no two faults are the first
abbrev pub FirstFaultsAreUnique : {S V : Type 0} → Format S V → Type 0
FirstFaultsAreUnique format = (rows : List Row) (fault other : FileFault) → IsFirstFault format rows fault → IsFirstFault format rows other → fault ≡ other

-- no file is accepted, whatever it says, and has a first fault as well
abbrev pub AcceptedHasNoFault : {S V : Type 0} → Format S V → Type 0
AcceptedHasNoFault {S} {V} format = (rows : List Row) (v : V) (fault : FileFault) → IsAccepted format rows v → IsFirstFault format rows fault → ⊥

-- each file is whole or has a first fault
abbrev pub EachIsJudged : {S V : Type 0} → Format S V → Type 0
EachIsJudged {S} format = (rows : List Row) → ((statements : List S) × AreWhole format rows statements) ⊎ ((fault : FileFault) × IsFirstFault format rows fault)
