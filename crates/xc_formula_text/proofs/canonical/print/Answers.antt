use Rattle.std.proofs.Common.{◌≡◌, ◌≤◌, ◌∷◌, [], ℕ, true, List, length, None, sym, ◌∙◌, ap, subst}
use Rattle.std.proofs.lemmas.Result.{IfOk-weaker}
use Rattle.xc_theory.specs.Codes.{total}
use Rattle.xc_base.specs.Formats.{IsAccepted}
use Rattle.xc_base.specs.Lines.{text_rows}
use Rattle.xc_base.specs.Text.{text_fault}
use Rattle.xc_formula_text.specs.FormulaFiles.{text_limit, formula_format}
use Rattle.xc_ctl.specs.Trees.{is_tree_in}
use Rattle.xc_formula_text.specs.Rereading.{IsGiven, IsOneLine}
use Rattle.xc_ctl.specs.Formulas.{tree_of}
use Rattle.xc_formula_text.specs.Texts.{text_of}
use Rattle.xc_ctl.specs.Trees.{Signature, Tree, sizes_of}
use Rattle.xc_formula_text.proofs.Rereading.{reads_again, has_no_fault, is_short_text}
use Rattle.xc_ctl.proofs.TableTrees.{formula_in_range}
use Rattle.xc_formula_text.proofs.canonical.print.Goals as goal

pub text_of-requires : goal.text_of-requires
text_of-requires c =
    let n : Signature = record { props = c.args.props.now; parts = c.args.parts.now; bottom = c.args.bottom; top = c.args.top } in
    subst (λ (t : Tree). is_tree_in (total (sizes_of n.parts)) (length n.props) t ≡ true) (sym c.in_ok-tree.ensures) (formula_in_range n c.args.formula.now.nodes c.requires.fit c.requires.range)

pub returns-clause-again : goal.returns-clause-again
returns-clause-again c =
    let n : Signature = record { props = c.args.props.now; parts = c.args.parts.now; bottom = c.args.bottom; top = c.args.top } in
    let nodes = c.args.formula.now.nodes in
    IfOk-weaker c.text_of.result (λ text. text ≡ text_of n (tree_of c.in_ok-tree.tree)) (λ text. IsGiven n nodes → (file : List ℕ) → IsOneLine text file → IsAccepted (formula_format n) (text_rows file) (nodes ∷ []))
    (λ text e. reads_again n nodes text c.requires.fit (e ∙ ap (text_of n) c.in_ok-tree.ensures)) c.text_of.ensures

pub returns-clause-sound : goal.returns-clause-sound
returns-clause-sound c =
    let n : Signature = record { props = c.args.props.now; parts = c.args.parts.now; bottom = c.args.bottom; top = c.args.top } in
    let nodes = c.args.formula.now.nodes in
    IfOk-weaker c.text_of.result (λ text. text ≡ text_of n (tree_of c.in_ok-tree.tree)) (λ text. IsGiven n nodes → (file : List ℕ) → IsOneLine text file → (limit : ℕ) → length file ≤ limit → text_fault limit file ≡ None)
    (λ text e. has_no_fault n nodes text c.requires.fit (e ∙ ap (text_of n) c.in_ok-tree.ensures)) c.text_of.ensures

pub returns-clause-short : goal.returns-clause-short
returns-clause-short c =
    let n : Signature = record { props = c.args.props.now; parts = c.args.parts.now; bottom = c.args.bottom; top = c.args.top } in
    let nodes = c.args.formula.now.nodes in
    IfOk-weaker c.text_of.result (λ text. text ≡ text_of n (tree_of c.in_ok-tree.tree)) (λ text. IsGiven n nodes → length text ≤ text_limit)
    (λ text e. is_short_text n nodes text c.requires.fit (e ∙ ap (text_of n) c.in_ok-tree.ensures)) c.text_of.ensures
