-- The reader of formulas gives the formula that is due, and what comes of it.
use Rattle.std.proofs.Common.{◌≡◌, ℕ, List, length, Option, Some, None, Result, Ok, refl, sym, ◌∙◌, ap}
use Rattle.xc_base.specs.Deciding.{Decides, excess_fault, statement_fault, unless, judged, line_of, on_ok}
use Rattle.xc_base.specs.Formats.{Row, Excess}
use Rattle.xc_base.specs.declared.fault.FileFault.{FileFault}
use Rattle.xc_formula.specs.Written.{Written}
use Rattle.xc_formula.specs.Reading.{formula_in}
use Rattle.xc_ctl.specs.Trees.{Signature, Tree}
use Rattle.xc_resolved.specs.Resolved.{resolved}
use Rattle.xc_formula_text.specs.FormulaFiles.{tree_excess, table_in, formula_format}
use Rattle.xc_formula_text.specs.Deciding.{decide, known_table, formula_table, row_table}
use Rattle.xc_ctl.specs.declared.kind.Kind.{Kind}
use Rattle.xc_formula.proofs.FormulaReading.{formula_sound, formula_complete}

-- what is read is the formula that is due
pub decides : (n : Signature) → Decides (formula_format n) decide
decides n = record { sound = λ before tokens f e. formula_sound tokens f e; complete = λ before tokens f s. formula_complete tokens f s }

-- the table of a formula, as a result
abbrev pub table_ok : Signature → Written → Result (List Kind) FileFault
table_ok n f = Ok (table_in (resolved n f))

module _ (n : Signature) (before : List Written) (number : ℕ) where
  -- by whether a limit is passed
  by_excess : (f : Written) (t : Tree) (o : Option Excess) → resolved n f ≡ Some t → unless (excess_fault number o) (table_in (Some t)) ≡ on_ok (unless (excess_fault number o) f) (table_ok n)
  by_excess f t None e = ap Ok (ap table_in (sym e))
  by_excess f t (Some x) e = refl

  -- by whether its names are known
  by_tree : (f : Written) (o : Option Tree) → resolved n f ≡ o → known_table n (length before) number o ≡ on_ok (unless (statement_fault (formula_format n) before number f) f) (table_ok n)
  unfolding statement_fault
  by_tree f None e = rw e refl
  by_tree f (Some t) e = by_excess f t (tree_excess n (length before) (Some t)) e ∙ rw e refl

  -- by whether there is a formula
  by_formula : (o : Option Written) → formula_table n (length before) number o ≡ on_ok (judged (formula_format n) before number o) (table_ok n)
  by_formula None = refl
  by_formula (Some f) = by_tree f (resolved n f) refl

-- the table of a row is that of its formula
pub row_is : (n : Signature) (before : List Written) (row : Row) → row_table n (length before) row ≡ on_ok (line_of (formula_format n) decide before row) (table_ok n)
unfolding row_table line_of
row_is n before row = by_formula n before row.number (formula_in row.tokens)
