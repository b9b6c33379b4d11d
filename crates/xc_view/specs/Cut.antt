-- Rows of a text that is cut into lines.
use Rattle.std.specs.Prelude.{◌≡◌, ℕ, List, None}
use Rattle.xc_base.specs.Formats.{Row}
use Rattle.xc_base.specs.Lines.{text_rows}
use Rattle.xc_base.specs.Text.{text_fault}

-- the rows are those of a text that has no fault
pub record AreCut (text : List ℕ) (rows : List Row) : Type 0 where
  pub limit : ℕ
  pub sound : text_fault limit text ≡ None
  pub own : rows ≡ text_rows text
