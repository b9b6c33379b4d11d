-- The judging of a file by a function that decides which statement a row is, where there is one.
use Rattle.std.specs.Prelude.{◌≡◌, ℕ, cond, List, [], ◌∷◌, ◌++◌, Option, Some, None, Result, Ok, Err}
use Rattle.xc_base.specs.declared.fault.Part.{Part}
use Rattle.xc_base.specs.declared.fault.FileFault.{FileFault}
use Rattle.xc_base.specs.declared.fault.FileFault.TheVariants.{NoStatement, Repeated, Unknown, Count, Missing}
use Rattle.xc_base.specs.declared.fault.Stop.{Stop}
use Rattle.xc_base.specs.declared.fault.Stop.TheVariants.{File, Memory}
use Rattle.xc_base.specs.Formats.{Format, Row, Excess}

-- the function gives the statement that is due, where one is
pub record Decides {S V : Type 0} (format : Format S V) (decide : List S → List (List ℕ) → Option S) : Type 0 where
  pub sound : (before : List S) (tokens : List (List ℕ)) (s : S) → decide before tokens ≡ Some s → format.Due before tokens s
  pub complete : (before : List S) (tokens : List (List ℕ)) (s : S) → format.Due before tokens s → decide before tokens ≡ Some s

abbrev pub excess_fault : ℕ → Option Excess → Option FileFault
excess_fault number None = None
excess_fault number (Some e) = Some (Count number e.what e.found)

-- the fault of a statement that is due, on the line of that number
unfoldable pub statement_fault : {S V : Type 0} → Format S V → List S → ℕ → S → Option FileFault
statement_fault format before number s =
    cond (format.repeated before s) (Some (Repeated number))
    (cond (format.unknown before s) (Some (Unknown number))
    (excess_fault number (format.count before s)))

abbrev pub unless : {S : Type 0} → Option FileFault → S → Result S FileFault
unless None s = Ok s
unless (Some fault) s = Err fault

abbrev pub judged : {S V : Type 0} → Format S V → List S → ℕ → Option S → Result S FileFault
judged format before number None = Err (NoStatement number)
judged format before number (Some s) = unless (statement_fault format before number s) s

-- what a row is after the statements before it: a faultless statement, or a fault
unfoldable pub line_of : {S V : Type 0} → Format S V → (List S → List (List ℕ) → Option S) → List S → Row → Result S FileFault
line_of format decide before row = judged format before row.number (decide before row.tokens)

abbrev pub on_ok : {S T : Type 0} → Result S FileFault → (S → Result T FileFault) → Result T FileFault
on_ok (Ok s) next = next s
on_ok (Err fault) next = Err fault

-- the statements before the rows and those of the rows, or the fault of the first row that has one
unfoldable pub statements_of : {S V : Type 0} → Format S V → (List S → List (List ℕ) → Option S) → List S → List Row → Result (List S) FileFault
statements_of format decide before [] = Ok before
statements_of format decide before (row ∷ rows) = on_ok (line_of format decide before row) (λ s. statements_of format decide (before ++ s ∷ []) rows)

abbrev pub whole : {S : Type 0} → Option Part → List S → Result (List S) FileFault
whole None statements = Ok statements
whole (Some part) statements = Err (Missing part)

-- the statements of a whole file, or its first fault
unfoldable pub file_of : {S V : Type 0} → Format S V → (List S → List (List ℕ) → Option S) → List Row → Result (List S) FileFault
file_of format decide rows = on_ok (statements_of format decide [] rows) (λ statements. whole (format.missing statements) statements)

-- what a reader gives is that, where memory is there
abbrev pub Gives : {T : Type 0} → Result T Stop → Result T FileFault → Type 0
Gives (Ok t) outcome = outcome ≡ Ok t
Gives (Err (File fault)) outcome = outcome ≡ Err fault
Gives (Err Memory) outcome = Unit {0}
