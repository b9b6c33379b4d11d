-- Formulas over a merged machine, as a file gives them.
use Rattle.std.specs.Prelude.{◌≡◌, ◌≤◌, true, List, length}
use Rattle.std.specs.List.{list_all}
use Rattle.xc_alg.specs.Products.{product}
use Rattle.xc_merge.specs.Merges.{Merge, parts_of}
use Rattle.xc_ctl.specs.Tables.{is_table, is_table_in}
use Rattle.xc_formula_text.specs.FormulaFiles.{formula_limit}
use Rattle.xc_ctl.specs.declared.kind.Kind.{Kind}

-- there are few of them, and the nodes of each are in order, with constants and propositions of the machine
pub record AreGiven (m : Merge) (formulas : List (List Kind)) : Type 0 where
  pub few : length formulas ≤ formula_limit
  pub ordered : list_all is_table formulas ≡ true
  pub within : list_all (is_table_in (product (parts_of m)).size (length m.plan.props)) formulas ≡ true
