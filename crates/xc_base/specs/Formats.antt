-- How a file of statements is judged, line by line, whatever the statements of its kind are.
use Rattle.std.specs.Prelude.{◌≡◌, ℕ, Bool, true, false, List, [], ◌∷◌, ◌++◌, Option, Some, None}
use Rattle.xc_base.specs.declared.fault.Counted.{Counted}
use Rattle.xc_base.specs.declared.fault.Part.{Part}
use Rattle.xc_base.specs.declared.fault.FileFault.{FileFault}
use Rattle.xc_base.specs.declared.fault.FileFault.TheVariants.{NoStatement, Repeated, Unknown, Count, Missing}

-- a line that has a token: its number, and the texts of its tokens
pub record Row : Type 0 where
  pub number : ℕ
  pub tokens : List (List ℕ)

-- what a line has too many of, and how many
pub record Excess : Type 0 where
  pub what : Counted
  pub found : ℕ

-- A kind of file. S are its statements and V is what a file says. Statements are judged after the faultless ones
-- before them, which are given in their order.
pub record Format (S V : Type 0) : Type 1 where
  -- the tokens are this statement, and it is due there
  pub Due : List S → List (List ℕ) → S → Type 0
  -- it says again what may be said once
  pub repeated : List S → S → Bool
  -- it names what there is not
  pub unknown : List S → S → Bool
  -- it passes a limit
  pub count : List S → S → Option Excess
  -- the first part that a file of these statements lacks
  pub missing : List S → Option Part
  -- what they say
  pub Says : List S → V → Type 0

-- the tokens are this statement, which is due after the ones before and has no fault
pub record IsFaultless {S V : Type 0} (format : Format S V) (before : List S) (tokens : List (List ℕ)) (s : S) : Type 0 where
  pub due : format.Due before tokens s
  pub first : format.repeated before s ≡ false
  pub known : format.unknown before s ≡ false
  pub few : format.count before s ≡ None

-- The fault of a row after the statements before it: what is no statement, then what is said again, then an unknown name, then a
-- limit.
pub data HasFault {S V : Type 0} (format : Format S V) (before : List S) (row : Row) : FileFault → Type 0 where
  no_statement : ((s : S) → format.Due before row.tokens s → ⊥) → HasFault format before row (NoStatement row.number)
  repeated : (s : S) → format.Due before row.tokens s → format.repeated before s ≡ true → HasFault format before row (Repeated row.number)
  unknown : (s : S) → format.Due before row.tokens s → format.repeated before s ≡ false → format.unknown before s ≡ true → HasFault format before row (Unknown row.number)
  count : (s : S) (e : Excess) → format.Due before row.tokens s → format.repeated before s ≡ false → format.unknown before s ≡ false → format.count before s ≡ Some e → HasFault format before row (Count row.number e.what e.found)

-- after the statements before them the rows are these statements, one after another and each faultless
pub data AreStatements {S V : Type 0} (format : Format S V) : List S → List Row → List S → Type 0 where
  none : (before : List S) → AreStatements format before [] []
  next : (before : List S) (row : Row) (rows : List Row) (s : S) (more : List S) → IsFaultless format before row.tokens s → AreStatements format (before ++ s ∷ []) rows more → AreStatements format before (row ∷ rows) (s ∷ more)

-- a file with these rows is accepted, and says v: each row is a faultless statement, and no part lacks
pub record IsAccepted {S V : Type 0} (format : Format S V) (rows : List Row) (v : V) : Type 0 where
  pub statements : List S
  pub read : AreStatements format [] rows statements
  pub whole : format.missing statements ≡ None
  pub says : format.Says statements v

-- The first fault of a file with these rows: that of the first row that has one, or a part that lacks where no row has.
pub data IsFirstFault {S V : Type 0} (format : Format S V) (rows : List Row) : FileFault → Type 0 where
  in_row : (front : List Row) (row : Row) (back : List Row) (before : List S) (fault : FileFault) → rows ≡ front ++ row ∷ back → AreStatements format [] front before → HasFault format before row fault → IsFirstFault format rows fault
  lacking : (statements : List S) (part : Part) → AreStatements format [] rows statements → format.missing statements ≡ Some part → IsFirstFault format rows (Missing part)
