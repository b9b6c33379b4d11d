-- A formula that a file gave is read again from its printed line.
use Rattle.std.proofs.Common.{◌≡◌, ℕ, ◌+◌, ◌<◌, ◌≤◌, inl, inr, get_or, take, drop, drop-cons, add-one, Bool, true, false, cond, nat_lt, List, [], ◌∷◌, ◌++◌, length, Option, Some, None, refl, sym, ◌∙◌, ap, subst, arith}
use Rattle.std.specs.Option.{is_none}
use Rattle.std.proofs.lemmas.Bool.{ltb-false, le-ltb, le-leb, and_from}
use Rattle.std.proofs.lemmas.List.{take-append-drop}
use Rattle.xc_base.specs.Canonical.{spaced, canonical, numbered, is_line, is_short}
use Rattle.xc_base.specs.Formats.{Row, Excess, IsFaultless, AreStatements, IsAccepted}
use Rattle.xc_base.specs.Formats.AreStatements.{none, next}
use Rattle.xc_base.specs.Lines.{text_rows}
use Rattle.xc_base.specs.Text.{text_fault}
use Rattle.xc_base.proofs.CanonicalTexts.{canonical_is_cut, canonical_is_sound, numbered_none, numbered_more}
use Rattle.xc_base.proofs.SpacedTokens.{line_ends}
use Rattle.xc_formula.specs.Written.{Written, IsFormula}
use Rattle.xc_ctl.specs.Trees.{Signature, Tree, is_fit}
use Rattle.xc_resolved.specs.Resolved.{resolved}
use Rattle.xc_ctl.specs.Tables.{size_of, nodes_of}
use Rattle.xc_ctl.specs.TableTrees.{formula_of}
use Rattle.xc_formula_text.specs.Texts.{tokens_of, text_of}
use Rattle.xc_formula_text.specs.FormulaFiles.{node_limit, text_limit, formula_limit, tree_excess, table_in, tables_of, formula_format}
use Rattle.xc_formula_text.specs.Rereading.{IsGiven, IsOneLine}
use Rattle.xc_ctl.specs.declared.kind.Kind.{Kind}
use Rattle.xc_formula_text.proofs.NamedTrees.{is_named, formula_named}
use Rattle.xc_formula_text.proofs.OneLine.{rows_alike, fault_alike}
use Rattle.xc_formula_text.proofs.PrintedLines.{tokens_are_line, text_inside, text_some}
use Rattle.xc_formula_text.proofs.Ranges.{tree_in_range}
use Rattle.xc_formula_text.proofs.Spelling.{tokens_are_formula}
use Rattle.xc_ctl.proofs.TableTrees.{table_of_tree}
use Rattle.xc_formula_text.proofs.WrittenBack.{written_of, written_back, some_part}

-- a formula of a file, with its table
record IsFound (n : Signature) (nodes : List Kind) : Type 0 where
  before : List Written
  tokens : List (List ℕ)
  formula : Written
  faultless : IsFaultless (formula_format n) before tokens formula
  table : nodes ≡ table_in (resolved n formula)

-- each of the tables that a file says is found
found : (n : Signature) {before : List Written} {rows : List Row} {formulas : List Written} → AreStatements (formula_format n) before rows formulas → (front : List (List Kind)) (nodes : List Kind) (back : List (List Kind))
    → front ++ nodes ∷ back ≡ tables_of n formulas → IsFound n nodes
found n (none before) [] nodes back e = cc
found n (none before) (x ∷ front) nodes back e = cc
found n (next before row rows f more first rest) [] nodes back e = record { before = before; tokens = row.tokens; formula = f; faultless = first; table = cc }
found n (next before row rows f more first rest) (x ∷ front) nodes back e = found n rest front nodes back (cc)

-- the limits that a tree keeps
pub record IsSmall (n : Signature) (t : Tree) : Type 0 where
  nodes : size_of t ≤ 256
  text : length (text_of n t) ≤ 4000

small_by : (n : Signature) (t : Tree) (x y z : Excess) (a b c : Bool) → nat_lt node_limit (size_of t) ≡ a → nat_lt text_limit (length (text_of n t)) ≡ b
    → cond a (Some x) (cond b (Some y) (cond c None (Some z))) ≡ None → IsSmall n t
small_by n t x y z true b c e f h = cc
small_by n t x y z false true c e f h = cc
small_by n t x y z false false c e f h = record { nodes = ltb-false node_limit (size_of t) e; text = ltb-false text_limit (length (text_of n t)) f }

small_tree : (n : Signature) (before : ℕ) (t : Tree) → tree_excess n before (Some t) ≡ None → IsSmall n t
small_tree n before t h = small_by n t _ _ _ (nat_lt node_limit (size_of t)) (nat_lt text_limit (length (text_of n t))) (nat_lt before formula_limit) refl refl h

-- so it passes no limit as the first formula of a file
first_small : (n : Signature) (t : Tree) → IsSmall n t → tree_excess n 0 (Some t) ≡ None
first_small n t s = rw (le-ltb node_limit (size_of t) s.nodes, le-ltb text_limit (length (text_of n t)) s.text) refl

-- a tree whose printed tokens are a formula again
pub record IsPrinted (n : Signature) (t : Tree) : Type 0 where
  small : IsSmall n t
  named : is_named n t ≡ true
  back : resolved n (written_of n t) ≡ Some t
  spelled : IsFormula (tokens_of n t) (written_of n t)

-- which a faultless formula is written out
faultless_tree : (n : Signature) (before : List Written) (tokens : List (List ℕ)) (f : Written) (o : Option Tree) → is_fit n ≡ true → IsFormula tokens f → resolved n f ≡ o → is_none o ≡ false → tree_excess n (length before) o ≡ None
    → (t : Tree) × (o ≡ Some t) × IsPrinted n t
faultless_tree n before tokens f None h s e known few = cc
faultless_tree n before tokens f (Some t) h s e known few =
    let small = small_tree n (length before) t few in
    let named = formula_named n _ _ tokens f t s e in
    (t, refl, record { small = small; named = named; back = written_back n t h (tree_in_range n f t h e); spelled = tokens_are_formula n t (some_part n h) named small.nodes })

-- its tokens alone are read as that formula
row_accepted : (n : Signature) (t : Tree) → IsPrinted n t → IsAccepted (formula_format n) (numbered 1 (tokens_of n t ∷ [])) (nodes_of t ∷ [])
row_accepted n t p =
    let f : Written = written_of n t in
    let faultless : IsFaultless (formula_format n) [] (tokens_of n t) f = record { due = p.spelled; first = refl; known = ap is_none p.back; few = ap (tree_excess n 0) p.back ∙ first_small n t p.small } in
    let row : Row = record { number = 1; tokens = tokens_of n t } in
    let one : numbered 1 (tokens_of n t ∷ []) ≡ row ∷ [] = numbered_more 1 (tokens_of n t) [] ∙ ap (λ (rows : List Row). row ∷ rows) (numbered_none 2) in
    let accepted : IsAccepted (formula_format n) (row ∷ []) (nodes_of t ∷ []) =
    record { statements = f ∷ []; read = next [] row [] f [] faultless (none (f ∷ [])); whole = refl; says = ap (λ (o : Option Tree). table_in o ∷ []) (sym p.back) } in
    subst (λ (rows : List Row). IsAccepted (formula_format n) rows (nodes_of t ∷ [])) (sym one) accepted

-- its text and a line's end are the canonical text of that line
line_is : (n : Signature) (t : Tree) → text_of n t ++ 10 ∷ [] ≡ canonical (tokens_of n t ∷ [])
line_is n t = line_ends [] (tokens_of n t)

lines_all : (n : Signature) (t : Tree) → IsPrinted n t → (is_line (tokens_of n t) ≡ true) × (is_short (tokens_of n t) ≡ true)
lines_all n t p = (tokens_are_line n t p.named, le-leb (length (spaced (tokens_of n t))) 4096 (let few = p.small.text in omega arith))

-- a file with that one line has that row
ended_rows : (n : Signature) (t : Tree) → IsPrinted n t → text_rows (text_of n t ++ 10 ∷ []) ≡ numbered 1 (tokens_of n t ∷ [])
ended_rows n t p = ap text_rows (line_is n t) ∙ canonical_is_cut (tokens_of n t ∷ []) (and_from _ _ (lines_all n t p).0 refl)

rows_are : (n : Signature) (t : Tree) (file : List ℕ) → IsPrinted n t → IsOneLine (text_of n t) file → text_rows file ≡ numbered 1 (tokens_of n t ∷ [])
rows_are n t file p (inl e) = ap text_rows e ∙ (sym (rows_alike (text_of n t) (text_some n t p.named) (text_inside n t p.named)) ∙ ended_rows n t p)
rows_are n t file p (inr e) = ap text_rows e ∙ ended_rows n t p

-- and no fault
ended_fault : (n : Signature) (t : Tree) → IsPrinted n t → (limit : ℕ) → length (text_of n t ++ 10 ∷ []) ≤ limit → text_fault limit (text_of n t ++ 10 ∷ []) ≡ None
ended_fault n t p limit few =
    let lines = lines_all n t p in
    let small : length (canonical (tokens_of n t ∷ [])) ≤ limit = subst (λ (text : List ℕ). length text ≤ limit) (line_is n t) few in
    ap (text_fault limit) (line_is n t) ∙ canonical_is_sound (tokens_of n t ∷ []) limit (and_from _ _ lines.0 refl) (and_from _ _ lines.1 refl) small

fault_is : (n : Signature) (t : Tree) (file : List ℕ) → IsPrinted n t → IsOneLine (text_of n t) file → (limit : ℕ) → length file ≤ limit → text_fault limit file ≡ None
fault_is n t file p (inl e) limit few =
    ap (text_fault limit) e
    ∙ fault_alike (text_of n t) limit (text_some n t p.named) (text_inside n t p.named) (ended_fault n t p (length (text_of n t ++ 10 ∷ [])) (omega arith)) (subst (λ (text : List ℕ). length text ≤ limit) e few)
fault_is n t file p (inr e) limit few = ap (text_fault limit) e ∙ ended_fault n t p limit (subst (λ (text : List ℕ). length text ≤ limit) e few)

-- the tree of a table that is given
pub given_tree : (n : Signature) (nodes : List Kind) → is_fit n ≡ true → IsGiven n nodes → (t : Tree) × (nodes ≡ nodes_of t) × (formula_of nodes ≡ t) × IsPrinted n t
given_tree n nodes h g =
    let one = found n g.accepted.read g.before nodes g.behind g.accepted.says in
    let tree = faultless_tree n one.before one.tokens one.formula (resolved n one.formula) h one.faultless.due refl one.faultless.known one.faultless.few in
    let same : nodes ≡ nodes_of tree.0 = one.table ∙ ap table_in tree.1 in
    (tree.0, same, ap formula_of same ∙ table_of_tree tree.0, tree.2)

-- a formula that was given is read again, without a fault, from its text as a file's one line
pub reads_again : (n : Signature) (nodes : List Kind) (text : List ℕ) → is_fit n ≡ true → text ≡ text_of n (formula_of nodes) → IsGiven n nodes → (file : List ℕ) → IsOneLine text file → IsAccepted (formula_format n) (text_rows file) (nodes ∷ [])
reads_again n nodes text h e g file one =
    let tree = given_tree n nodes h g in
    let line : IsOneLine (text_of n tree.0) file = subst (λ (xs : List ℕ). IsOneLine xs file) (e ∙ ap (text_of n) tree.2) one in
    rw (rows_are n tree.0 file tree.3 line) (subst (λ (ks : List Kind). IsAccepted (formula_format n) (numbered 1 (tokens_of n tree.0 ∷ [])) (ks ∷ [])) (sym tree.1) (row_accepted n tree.0 tree.3))

pub has_no_fault : (n : Signature) (nodes : List Kind) (text : List ℕ) → is_fit n ≡ true → text ≡ text_of n (formula_of nodes) → IsGiven n nodes → (file : List ℕ) → IsOneLine text file → (limit : ℕ) → length file ≤ limit → text_fault limit file ≡ None
has_no_fault n nodes text h e g file one =
    let tree = given_tree n nodes h g in
    fault_is n tree.0 file tree.3 (subst (λ (xs : List ℕ). IsOneLine xs file) (e ∙ ap (text_of n) tree.2) one)

-- and its text is short
pub is_short_text : (n : Signature) (nodes : List Kind) (text : List ℕ) → is_fit n ≡ true → text ≡ text_of n (formula_of nodes) → IsGiven n nodes → length text ≤ text_limit
is_short_text n nodes text h e g =
    let tree = given_tree n nodes h g in
    rw (e, tree.2) tree.3.small.text

-- the items before a place, the one there, and those behind
split_at : (tables : List (List Kind)) (i : ℕ) → i < length tables → tables ≡ take i tables ++ get_or tables i [] ∷ drop (i + 1) tables
split_at tables i low = sym (take-append-drop i tables) ∙ ap (λ (back : List (List Kind)). take i tables ++ back) (rw add-one (drop-cons tables i [] low))

-- what a file gives at a place
pub given_at : (n : Signature) (rows : List Row) (tables : List (List Kind)) (i : ℕ) → IsAccepted (formula_format n) rows tables → i < length tables → IsGiven n (get_or tables i [])
given_at n rows tables i h low =
    record { rows = rows; before = take i tables; behind = drop (i + 1) tables; accepted = subst (IsAccepted (formula_format n) rows) (split_at tables i low) h }
