-- The items of a report have one text, one behind the other.
use Rattle.std.proofs.Common.{◌≡◌, ℕ, ◌+◌, Bool, List, [], ◌∷◌, ◌++◌, sum, refl, ◌∙◌, ap}
use Rattle.std.specs.Prelude.{None}
use Rattle.xc_theory.proofs.Chains.{heights_are_unique}
use Rattle.xc_lattice.specs.LatticeFiles.{LatticeValue}
use Rattle.xc_merge.specs.Merges.{Merge, parts_of}
use Rattle.xc_merge.specs.MergedFrames.{merged_frame}
use Rattle.xc_ctl.specs.declared.kind.Kind.{Kind}
use Rattle.xc_report.specs.Reports.{head_text, block_text}
use Rattle.xc_report.proofs.Lattices.{IsNamed, AreNamed, lattice_height, some_heights}
use Rattle.xc_lines.specs.Texts.{lattice_text}
use Rattle.xc_course.specs.Items.{Item, Fixed, Described, Head, Block, IsTextOf, IsReply}
use Rattle.xc_course.specs.Items.IsReply.{none as reply_none, more as reply_more}
use Rattle.xc_eval.specs.Checking.{blocks_of, report_items}
use Rattle.xc_top.proofs.Blocks.{heights_same, block_same, table_parts}
use Rattle.xc_top.proofs.Formulas.{AreFormulas, first_formula, more_formulas}
use Rattle.xc_top.proofs.Tables.{IsFormula, tables_tell_same, some_table}

-- P holds of one text and of no other
pub record IsOne (P : List ℕ → Type 0) : Type 0 where
  pub text : List ℕ
  pub holds : P text
  pub only : (other : List ℕ) → P other → other ≡ text

-- each item has one text
abbrev pub AreWorded : List Item → Type 0
AreWorded [] = Unit {0}
AreWorded (item ∷ items) = IsOne (IsTextOf item) × AreWorded items

no_more : (other : List ℕ) → IsReply [] other → other ≡ []
no_more other reply_none = refl

one_then : (item : Item) (items : List Item) → (first : IsOne (IsTextOf item)) → (more : IsOne (IsReply items)) → (other : List ℕ) → IsReply (item ∷ items) other → other ≡ first.text ++ more.text
one_then item items first more other (reply_more text rest is reply) = ap (λ (t : List ℕ). t ++ rest) (first.only text is) ∙ ap (λ (t : List ℕ). first.text ++ t) (more.only rest reply)

-- so they have one, one behind the other
pub one_reply : (items : List Item) → AreWorded items → IsOne (IsReply items)
one_reply [] are = record { text = []; holds = reply_none; only = no_more }
one_reply (item ∷ items) are =
    let more = one_reply items are.1 in
    record { text = are.0.text ++ more.text; holds = reply_more are.0.text more.text are.0.holds more.holds; only = one_then item items are.0 more }

-- a given text, and the line of a lattice
pub fixed_text : (text : List ℕ) → IsOne (IsTextOf (Fixed text))
fixed_text text = record { text = text; holds = refl; only = λ other is. is }

pub described_text : (l : LatticeValue) → IsNamed l → IsOne (IsTextOf (Described l))
described_text l is =
    let height = lattice_height l is in
    record {
      text = lattice_text l height.0;
      holds = record { height = height.0; is_height = height.1; is = refl };
      only = λ other h. h.is ∙ ap (lattice_text l) (heights_are_unique l.algebra.order h.height height.0 h.is_height height.1);
    }

-- the first line of a report, and a block
head_is_one : (marked : Bool) (m : Merge) → AreNamed m.viewpoints → IsOne (IsTextOf (Head marked m))
head_is_one marked m are =
    let heights = some_heights m are in
    record {
      text = head_text marked m (sum heights.0);
      holds = record { heights = heights.0; are_heights = heights.1; is = refl };
      only = λ other h. h.is ∙ ap (λ (hs : List ℕ). head_text marked m (sum hs)) (heights_same (parts_of m) h.heights heights.0 h.are_heights heights.1);
    }

block_is_one : (marked : Bool) (m : Merge) (number : ℕ) (nodes : List Kind) → IsFormula (merged_frame m) nodes → IsOne (IsTextOf (Block marked m number nodes))
block_is_one marked m number nodes is =
    let table = some_table (merged_frame m) nodes is in
    record {
      text = block_text marked m number nodes table.0 None;
      holds = record { table = table.0; tells = table.1; is = refl };
      only = λ other h. h.is ∙ block_same marked m number nodes h.table table.0 None (table_parts nodes is.ordered).some (tables_tell_same (merged_frame m) nodes h.table table.0 is h.tells table.1);
    }

blocks_are_worded : (marked : Bool) (m : Merge) (number : ℕ) (formulas : List (List Kind)) → AreFormulas m formulas → AreWorded (blocks_of marked m number formulas)
blocks_are_worded marked m number [] are = tt
blocks_are_worded marked m number (nodes ∷ formulas) are =
    (block_is_one marked m number nodes (first_formula m nodes formulas are), blocks_are_worded marked m (number + 1) formulas (more_formulas m nodes formulas are))

-- a report
pub report_is_worded : (marked : Bool) (m : Merge) (formulas : List (List Kind)) → AreNamed m.viewpoints → AreFormulas m formulas → AreWorded (report_items marked m formulas)
report_is_worded marked m formulas named are = (head_is_one marked m named, blocks_are_worded marked m 1 formulas are)
