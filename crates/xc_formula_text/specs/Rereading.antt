-- Formulas that are printed on a line and read again.
use Rattle.std.specs.Prelude.{◌≡◌, ◌⊎◌, ℕ, List, [], ◌∷◌, ◌++◌}
use Rattle.xc_base.specs.Formats.{Row, IsAccepted}
use Rattle.xc_ctl.specs.Trees.{Signature}
use Rattle.xc_formula_text.specs.FormulaFiles.{formula_format}
use Rattle.xc_ctl.specs.declared.kind.Kind.{Kind}

-- the table is a formula of a file that is accepted
pub record IsGiven (n : Signature) (nodes : List Kind) : Type 0 where
  pub rows : List Row
  pub before : List (List Kind)
  pub behind : List (List Kind)
  pub accepted : IsAccepted (formula_format n) rows (before ++ nodes ∷ behind)

-- the file has that text as its one line, which may be ended or not
abbrev pub IsOneLine : List ℕ → List ℕ → Type 0
IsOneLine text file = (file ≡ text) ⊎ (file ≡ text ++ 10 ∷ [])
