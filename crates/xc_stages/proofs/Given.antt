-- The formulas of a file that is accepted, as they are evaluated.
use Rattle.std.proofs.Common.{◌≡◌, ℕ, ◌+◌, ◌<◌, ◌≤◌, Bool, true, false, cond, nat_lt, List, [], ◌∷◌, ◌++◌, length, length-append, Option, Some, None, Result, Ok, Err, IfOk, refl, ◌∙◌, ap, subst, arith}
use Rattle.std.specs.List.{list_all}
use Rattle.std.specs.Option.{is_none}
use Rattle.std.proofs.lemmas.Bool.{ltb-true}
use Rattle.std.proofs.lemmas.List.{length-map}
use Rattle.xc_theory.specs.Codes.{total}
use Rattle.xc_alg.specs.Products.{product}
use Rattle.xc_base.specs.Formats.{Row, Excess, AreStatements, IsAccepted}
use Rattle.xc_base.specs.Formats.AreStatements.{none, next}
use Rattle.xc_base.specs.declared.fault.Stop.{Stop}
use Rattle.xc_formula_text.specs.FormulaFiles.{node_limit, text_limit, formula_limit, tree_excess, table_in, formula_format}
use Rattle.xc_ctl.specs.Formulas.{nodes_in}
use Rattle.xc_ctl.specs.Tables.{is_table_in, size_of}
use Rattle.xc_formula_text.specs.Texts.{text_of}
use Rattle.xc_ctl.specs.Trees.{Signature, Tree, sizes_of}
use Rattle.xc_resolved.specs.Resolved.{resolved}
use Rattle.xc_formula.specs.Written.{Written}
use Rattle.xc_ctl.specs.declared.formula.Formulas.{Formulas}
use Rattle.xc_ctl.specs.declared.kind.Kind.{Kind}
use Rattle.xc_formula_text.proofs.Verdicts.{accepted_are_tables}
use Rattle.xc_merge.specs.Merges.{Merge, parts_of, names_of_parts}
use Rattle.xc_course.specs.Given.{AreGiven}

-- formulas before one that is not too many
none_too_many : (big : Bool) (x : Excess) (long : Bool) (y : Excess) (few : Bool) (z : Excess) → cond big (Some x) (cond long (Some y) (cond few None (Some z))) ≡ None → few ≡ true
none_too_many true x long y few z h = cc
none_too_many false x true y few z h = cc
none_too_many false x false y true z h = refl
none_too_many false x false y false z h = cc

few_before : (n : Signature) (before : ℕ) (o : Option Tree) → is_none o ≡ false → tree_excess n before o ≡ None → before < formula_limit
few_before n before None known h = cc
few_before n before (Some t) known h = ltb-true before formula_limit (none_too_many (nat_lt node_limit (size_of t)) _ (nat_lt text_limit (length (text_of n t))) _ (nat_lt before formula_limit) _ h)

statements_few : (n : Signature) {before : List Written} {rows : List Row} {formulas : List Written} → AreStatements (formula_format n) before rows formulas → length before ≤ formula_limit → length before + length formulas ≤ formula_limit
statements_few n (none before) few = omega (arith, few)
statements_few n (next before row rows f more first rest) few =
    let here : length before < formula_limit = few_before n (length before) (resolved n f) first.known first.few in
    let one : length (before ++ f ∷ []) ≡ length before + 1 = length-append before (f ∷ []) in
    omega (arith, one, statements_few n rest (omega (arith, here, one)))

accepted_are_few : (n : Signature) (rows : List Row) (tables : List (List Kind)) → IsAccepted (formula_format n) rows tables → length tables ≤ formula_limit
accepted_are_few n rows tables h =
    let same : length tables ≡ length h.statements = ap (λ (ts : List (List Kind)). length ts) h.says ∙ length-map h.statements (λ f. table_in (resolved n f)) in
    omega (arith, same, statements_few n h.read (omega arith))

-- the same numbers of elements and of propositions, by other words
within_kept : (m : Merge) (parts : List (List (List ℕ))) (props : List (List ℕ)) (tables : List (List Kind)) → parts ≡ names_of_parts m → props ≡ m.plan.props → total (sizes_of (names_of_parts m)) ≡ (product (parts_of m)).size
    → list_all (is_table_in (total (sizes_of parts)) (length props)) tables ≡ true → list_all (is_table_in (product (parts_of m)).size (length m.plan.props)) tables ≡ true
within_kept m parts props tables same are many h =
    subst (λ (size : ℕ). list_all (is_table_in size (length m.plan.props)) tables ≡ true) (ap (λ (ps : List (List (List ℕ))). total (sizes_of ps)) same ∙ many)
    (subst (λ (ps : List (List ℕ)). list_all (is_table_in (total (sizes_of parts)) (length ps)) tables ≡ true) are h)

-- what a file gives
pub are_given : (m : Merge) (n : Signature) (rows : List Row) (parts : List (List (List ℕ))) (props : List (List ℕ)) (result : Result Formulas Stop) → parts ≡ names_of_parts m → props ≡ m.plan.props → total (sizes_of (names_of_parts m)) ≡ (product (parts_of m)).size
    → IfOk result (λ fs. IsAccepted (formula_format n) rows (nodes_in fs)) → IfOk result (λ fs. list_all (is_table_in (total (sizes_of parts)) (length props)) (nodes_in fs) ≡ true) → IfOk result (λ fs. AreGiven m (nodes_in fs))
are_given m n rows parts props (Err stop) same are many accepted h = tt
are_given m n rows parts props (Ok fs) same are many accepted h = record {
  few = accepted_are_few n rows (nodes_in fs) accepted;
  ordered = accepted_are_tables n rows (nodes_in fs) accepted;
  within = within_kept m parts props (nodes_in fs) same are many h;
}
