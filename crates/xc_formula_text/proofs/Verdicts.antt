-- A formula file is accepted and says one list of tables, or it has one first fault.
use Rattle.std.proofs.Common.{◌≡◌, ℕ, ◌≤◌, Bool, true, false, cond, nat_lt, List, length, Option, Some, None, refl, sym, ◌∙◌, subst, ap, ◌⊎◌, inl, inr}
use Rattle.std.specs.List.{list_all}
use Rattle.std.specs.Option.{is_none}
use Rattle.std.proofs.lemmas.Bool.{and_from, ltb-false}
use Rattle.xc_base.specs.Formats.{Row, Excess, AreStatements, IsAccepted, IsFirstFault}
use Rattle.xc_base.specs.Formats.AreStatements.{none, next}
use Rattle.xc_base.specs.Judging.{AreWhole}
use Rattle.xc_base.proofs.Deciding.{statements_are_unique, first_faults_are_unique, accepted_has_no_fault, each_is_judged}
use Rattle.xc_base.specs.declared.fault.FileFault.{FileFault}
use Rattle.xc_formula.specs.Written.{Written}
use Rattle.xc_ctl.specs.Trees.{Signature, Tree}
use Rattle.xc_resolved.specs.Resolved.{resolved}
use Rattle.xc_ctl.specs.Tables.{size_of, is_table}
use Rattle.xc_formula_text.specs.FormulaFiles.{node_limit, tree_excess, table_in, tables_of, formula_format}
use Rattle.xc_formula_text.specs.Laws.{TablesAreUnique, FaultsAreUnique, AcceptedHasNoFault, EachIsJudged}
use Rattle.xc_formula_text.specs.Deciding.{decide}
use Rattle.xc_ctl.specs.declared.kind.Kind.{Kind}
use Rattle.xc_formula_text.proofs.Deciding.{decides}
use Rattle.xc_ctl.proofs.TreeTables.{tree_is_table}

-- no file says two lists of tables
pub tables_are_unique : TablesAreUnique
tables_are_unique n rows tables others h k =
    h.says ∙ ap (tables_of n) (statements_are_unique (formula_format n) decide (decides n) rows h.statements k.statements h.read k.read) ∙ sym k.says

-- no file has two first faults
pub formula_faults_are_unique : FaultsAreUnique
formula_faults_are_unique n = first_faults_are_unique (formula_format n) decide (decides n)

-- no file that is accepted has a fault
pub formulas_have_no_fault : AcceptedHasNoFault
formulas_have_no_fault n rows tables fault h k = accepted_has_no_fault (formula_format n) decide (decides n) rows tables fault h k

-- the statements of a whole file say tables
judged_by : (n : Signature) (rows : List Row) → ((formulas : List Written) × AreWhole (formula_format n) rows formulas) ⊎ ((fault : FileFault) × IsFirstFault (formula_format n) rows fault)
    → ((tables : List (List Kind)) × IsAccepted (formula_format n) rows tables) ⊎ ((fault : FileFault) × IsFirstFault (formula_format n) rows fault)
judged_by n rows (inl h) = inl (tables_of n h.0, record { statements = h.0; read = h.1.read; whole = h.1.whole; says = refl })
judged_by n rows (inr h) = inr h

-- each file is accepted or has a fault
pub formula_files_are_judged : EachIsJudged
formula_files_are_judged n rows = judged_by n rows (each_is_judged (formula_format n) decide (decides n) rows)

-- a tree with few nodes
few_nodes : (size : ℕ) (x : Excess) (more : Option Excess) (b : Bool) → nat_lt node_limit size ≡ b → cond b (Some x) more ≡ None → size ≤ 256
few_nodes size x more true e h = cc
few_nodes size x more false e h = ltb-false node_limit size e

-- the table of a faultless formula
formula_is_table : (n : Signature) (before : ℕ) (o : Option Tree) → is_none o ≡ false → tree_excess n before o ≡ None → is_table (table_in o) ≡ true
formula_is_table n before None h e = cc
formula_is_table n before (Some t) h e = tree_is_table t (few_nodes (size_of t) _ _ (nat_lt node_limit (size_of t)) refl e)

-- the tables of faultless formulas
formulas_are_tables : (n : Signature) {before : List Written} {rows : List Row} {formulas : List Written} → AreStatements (formula_format n) before rows formulas → list_all is_table (tables_of n formulas) ≡ true
formulas_are_tables n (none before) = refl
formulas_are_tables n (next before row rows f more first rest) = and_from _ _ (formula_is_table n (length before) (resolved n f) first.known first.few) (formulas_are_tables n rest)

-- what an accepted file says are tables
pub accepted_are_tables : (n : Signature) (rows : List Row) (tables : List (List Kind)) → IsAccepted (formula_format n) rows tables → list_all is_table tables ≡ true
accepted_are_tables n rows tables h = subst (λ (ts : List (List Kind)). list_all is_table ts ≡ true) (sym h.says) (formulas_are_tables n h.read)
