-- The formulas of a file over what is merged.
use Rattle.std.proofs.Common.{◌≡◌, ℕ, true, List, ◌∷◌, length, sym, subst}
use Rattle.std.specs.List.{list_all}
use Rattle.xc_alg.specs.Products.{product}
use Rattle.xc_merge.specs.Merges.{Merge, parts_of, names_of_parts}
use Rattle.xc_theory.specs.Codes.{total}
use Rattle.xc_base.specs.Formats.{Row, IsAccepted}
use Rattle.xc_formula_text.specs.FormulaFiles.{formula_format}
use Rattle.xc_ctl.specs.Trees.{sizes_of}
use Rattle.xc_formula_text.proofs.Verdicts.{accepted_are_tables}
use Rattle.xc_formula_text.proofs.Ranges.{tables_in_range}
use Rattle.xc_ctl.specs.Frames.{IsFrame}
use Rattle.xc_ctl.specs.Tables.{is_table, is_table_in}
use Rattle.xc_ctl.specs.declared.kind.Kind.{Kind}
use Rattle.xc_report.specs.Reports.{signature_of}
use Rattle.xc_report.proofs.Lattices.{names_as_many}
use Rattle.xc_report.proofs.Framed.{IsGood, merge_is_framed, merge_is_fit}
use Rattle.xc_top.proofs.Tables.{IsFormula}
use Rattle.std.proofs.lemmas.Bool.{and_parts}
use Rattle.xc_merge.specs.MergedFrames.{merged_frame}

-- formulas over a frame
pub record AreFormulas (m : Merge) (formulas : List (List Kind)) : Type 0 where
  pub framed : IsFrame (merged_frame m)
  pub ordered : list_all is_table formulas ≡ true
  pub within : list_all (is_table_in (product (parts_of m)).size (length m.plan.props)) formulas ≡ true

pub first_formula : (m : Merge) (nodes : List Kind) (formulas : List (List Kind)) → AreFormulas m (nodes ∷ formulas) → IsFormula (merged_frame m) nodes
unfolding merged_frame
first_formula m nodes formulas are = record {
  framed = are.framed;
  ordered = (and_parts (is_table nodes) (list_all is_table formulas) are.ordered).0;
  within = (and_parts (is_table_in (product (parts_of m)).size (length m.plan.props) nodes) (list_all (is_table_in (product (parts_of m)).size (length m.plan.props)) formulas) are.within).0;
}

pub more_formulas : (m : Merge) (nodes : List Kind) (formulas : List (List Kind)) → AreFormulas m (nodes ∷ formulas) → AreFormulas m formulas
more_formulas m nodes formulas are = record {
  framed = are.framed;
  ordered = (and_parts (is_table nodes) (list_all is_table formulas) are.ordered).1;
  within = (and_parts (is_table_in (product (parts_of m)).size (length m.plan.props) nodes) (list_all (is_table_in (product (parts_of m)).size (length m.plan.props)) formulas) are.within).1;
}

-- the formulas of a file over what is merged
pub good_formulas : (m : Merge) (rows : List Row) (formulas : List (List Kind)) → IsGood m → IsAccepted (formula_format (signature_of m)) rows formulas → AreFormulas m formulas
good_formulas m rows formulas good accepted = record {
  framed = merge_is_framed m good;
  ordered = accepted_are_tables (signature_of m) rows formulas accepted;
  within = subst (λ (size : ℕ). list_all (is_table_in size (length m.plan.props)) formulas ≡ true) (names_as_many m good.are_named)
      (subst (λ (ts : List (List Kind)). list_all (is_table_in (total (sizes_of (names_of_parts m))) (length m.plan.props)) ts ≡ true) (sym accepted.says) (tables_in_range (signature_of m) accepted.statements (merge_is_fit m good)));
}
