-- The formulas are accepted over the merged machine.
use Rattle.std.proofs.Common.{◌≡◌, ℕ, Bool, true, false, ◌&&◌, List, [], ◌∷◌, codes, Result, Ok, Err, refl, sym, ◌∙◌, ap, subst}
use Rattle.std.specs.Result.{is_ok}
use Rattle.std.specs.Str.{bytes_eq}
use Rattle.std.specs.Fmt as fmt
use Rattle.std.proofs.lemmas.Bool.{and_parts, false≢true}
use Rattle.xc_theory.specs.Bounds.{first_meet, first_join}
use Rattle.xc_alg.specs.Products as products
use Rattle.xc_base.specs.Canonical.{spaced}
use Rattle.xc_base.specs.Deciding.{line_of, statements_of, file_of, statement_fault}
use Rattle.xc_base.specs.Formats.{IsAccepted}
use Rattle.xc_base.specs.Lines.{text_rows}
use Rattle.xc_base.specs.Names.{are_same}
use Rattle.xc_base.specs.Operators.{chained, chain_up_to}
use Rattle.xc_base.specs.Operators as operators
use Rattle.xc_base.specs.Text.{lines_of, tokens_from, rows_from}
use Rattle.xc_base.specs.declared.fault.FileFault.{FileFault}
use Rattle.xc_base.proofs.Deciding.{gives_statements}
use Rattle.xc_base.proofs.Naming.{same_bytes}
use Rattle.xc_lattice.specs.LatticeFiles.{LatticeValue}
use Rattle.xc_ctl.specs.Trees.{Signature}
use Rattle.xc_formula.specs.Written.{Written}
use Rattle.xc_formula_text.specs.FormulaFiles.{formula_format, tables_of}
use Rattle.xc_formula.specs.FormulaReading.{implication, implications, implications_up_to, sum, basic, nested, atom, names, one_name}
use Rattle.xc_formula.specs.FormulaReading as reading
use Rattle.xc_formula.specs.Reading.{formula_in}
use Rattle.xc_formula_text.specs.Deciding.{decide}
use Rattle.xc_ctl.specs.declared.kind.Kind.{Kind}
use Rattle.xc_formula_text.proofs.Deciding.{decides}
use Rattle.xc_gen.specs.Generated.{formulas_text}
use Rattle.xc_gen_laws.proofs.Checks.{chain, diamond}

-- what formulas over two lattices are about
abbrev pub about : List (List ℕ) → LatticeValue → LatticeValue → Signature
about props left right =
    record {
      props = props;
      parts = left.names ∷ right.names ∷ [];
      bottom = (products.product (left.algebra ∷ right.algebra ∷ [])).bottom;
      top = (products.product (left.algebra ∷ right.algebra ∷ [])).top;
    }

abbrev last : List (List ℕ)
last = codes "last" ∷ []

are_read : is_ok (file_of (formula_format (about last chain diamond)) decide (text_rows formulas_text)) ≡ true
unfolding file_of statements_of line_of statement_fault formula_in implication implications implications_up_to sum reading.product reading.until basic nested atom names one_name chained operators.chain chain_up_to lines_of tokens_from rows_from formulas_text products.product first_meet first_join spaced fmt.digits
are_read = refl

abbrev Accepted : Signature → Type 0
Accepted n = (formulas : List (List Kind)) × IsAccepted (formula_format n) (text_rows formulas_text) formulas

accepted : (n : Signature) (o : Result (List Written) FileFault) → file_of (formula_format n) decide (text_rows formulas_text) ≡ o → is_ok o ≡ true → Accepted n
accepted n (Ok fs) e h =
    let whole = (gives_statements (formula_format n) decide (decides n) (text_rows formulas_text) fs).0 e in
    (tables_of n fs, record { statements = fs; read = whole.read; whole = whole.whole; says = refl })
accepted n (Err fault) e h = absurd (false≢true h)

one_prop : (props : List (List ℕ)) → are_same props last ≡ true → props ≡ last
one_prop [] h = absurd (false≢true h)
one_prop (p ∷ []) h = ap (λ (name : List ℕ). name ∷ []) (same_bytes p (codes "last") (and_parts (bytes_eq p (codes "last")) true h).0)
one_prop (p ∷ q ∷ more) h = absurd (false≢true (and_parts (bytes_eq p (codes "last")) false h).1)

pub formulas_accepted : (props : List (List ℕ)) (left right : LatticeValue) → are_same props last ≡ true → left ≡ chain → right ≡ diamond → Accepted (about props left right)
formulas_accepted props left right h e f =
    let same : about props left right ≡ about last chain diamond =
    ap (λ (ps : List (List ℕ)). about ps left right) (one_prop props h) ∙ ap (λ (l : LatticeValue). about last l right) e ∙ ap (λ (r : LatticeValue). about last chain r) f in
    subst Accepted (sym same) (accepted (about last chain diamond) (file_of (formula_format (about last chain diamond)) decide (text_rows formulas_text)) refl are_read)
