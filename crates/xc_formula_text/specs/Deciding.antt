-- Which formula a row is, and its table.
-- Words for the steps of the code: public clauses do not rest on them.
use Rattle.std.specs.Prelude.{◌≡◌, ℕ, List, [], drop, map, Option, Some, None, Result, Err}
use Rattle.xc_base.specs.Deciding.{excess_fault, unless, statements_of}
use Rattle.xc_base.specs.Formats.{Row}
use Rattle.xc_base.specs.declared.fault.FileFault.{FileFault}
use Rattle.xc_base.specs.declared.fault.FileFault.TheVariants.{NoStatement, Unknown}
use Rattle.xc_formula.specs.Written.{Written}
use Rattle.xc_formula.specs.Reading.{formula_in}
use Rattle.xc_ctl.specs.Trees.{Signature, Tree}
use Rattle.xc_resolved.specs.Resolved.{resolved}
use Rattle.xc_ctl.specs.Tables.{nodes_of}
use Rattle.xc_formula_text.specs.FormulaFiles.{tree_excess, tables_of, formula_format}
use Rattle.xc_ctl.specs.declared.kind.Kind.{Kind}
use Rattle.xc_ctl.specs.declared.formula.Formula.{Formula}

-- the formula that a row with these tokens is, whatever stands before
abbrev pub decide : List Written → List (List ℕ) → Option Written
decide before tokens = formula_in tokens

-- the table of a formula that is written out, where it is within the limits after so many others
abbrev pub tree_table : Signature → ℕ → ℕ → Tree → Result (List Kind) FileFault
tree_table n before number tree = unless (excess_fault number (tree_excess n before (Some tree))) (nodes_of tree)

-- the same where names may be unknown
abbrev pub known_table : Signature → ℕ → ℕ → Option Tree → Result (List Kind) FileFault
known_table n before number None = Err (Unknown number)
known_table n before number (Some tree) = tree_table n before number tree

-- the same where there may be no formula
abbrev pub formula_table : Signature → ℕ → ℕ → Option Written → Result (List Kind) FileFault
formula_table n before number None = Err (NoStatement number)
formula_table n before number (Some f) = known_table n before number (resolved n f)

-- the table of the formula on a row after so many others, or the row's fault
unfoldable pub row_table : Signature → ℕ → Row → Result (List Kind) FileFault
row_table n before row = formula_table n before row.number (formula_in row.tokens)

-- the tables of formulas of the code
abbrev pub tables_in : List Formula → List (List Kind)
tables_in formulas = map (λ (f : Formula). f.nodes) formulas

-- the rows before a place are formulas with these tables, and what comes of the rest behind them is what comes of all
pub record HasRead (n : Signature) (rows : List Row) (place : ℕ) (tables : List (List Kind)) : Type 0 where
  pub formulas : List Written
  pub rest : statements_of (formula_format n) decide formulas (drop place rows) ≡ statements_of (formula_format n) decide [] rows
  pub same : tables ≡ tables_of n formulas
