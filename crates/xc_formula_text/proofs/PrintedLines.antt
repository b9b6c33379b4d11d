-- The printed tokens of a formula are a line of a canonical text.
use Rattle.std.proofs.Common.{◌≡◌, ℕ, ◌<◌, ◌≤◌, Bool, true, false, ◌&&◌, ◌||◌, ◌==◌, nat_le, not, if◌then◌else◌, List, [], ◌∷◌, ◌++◌, length, length-append, codes, refl, sym, ◌∙◌, ap, arith}
use Rattle.std.specs.List.{list_all}
use Rattle.std.proofs.lemmas.Bool.{and_parts, and_from, and_right, or_from, or_left, not-true, not_from_false, leb-true, lt-ltb, ne_eqb, both_ways}
use Rattle.std.proofs.lemmas.List.Folds.{list_all-append}
use Rattle.xc_theory.specs.Codes.{digits}
use Rattle.xc_base.specs.Canonical.{spaced, is_symbol, is_token, run_together, are_apart, is_line}
use Rattle.xc_base.specs.Names.{name_at}
use Rattle.xc_base.specs.Text.{joins}
use Rattle.xc_base.specs.Words.{is_within, is_word_byte, is_word, is_name}
use Rattle.xc_formula.specs.Written.{listed}
use Rattle.xc_ctl.specs.Trees.{Signature, Tree, Const, Atom, Not, And, Or, Ex, Eu, Au, Eg, sizes_of}
use Rattle.xc_formula_text.specs.Texts.{is_and, is_or, bracketed, digit_names, tokens_of, text_of}
use Rattle.xc_formula_text.proofs.NamedTrees.{is_named}
use Rattle.xc_formula_text.proofs.OneLine.{is_inside}

-- a printed character by itself that is of no word, and neither begins nor ends a symbol of two
abbrev is_mark_byte : ℕ → Bool
is_mark_byte b = is_within 33 126 b && not (is_word_byte b) && not (b == 35) && not (b == 58) && not (b == 45) && not (b == 61) && not (b == 62)

abbrev is_mark : List ℕ → Bool
is_mark [] = false
is_mark (b ∷ []) = is_mark_byte b
is_mark (b ∷ c ∷ more) = false

-- what printed formulas are made of
abbrev is_piece : List ℕ → Bool
is_piece text = is_word text || is_mark text

-- what is known of such a byte
record IsMark (b : ℕ) : Type 0 where
  printed : is_within 33 126 b ≡ true
  no_word : is_word_byte b ≡ false
  no_comment : (b == 35) ≡ false
  no_colon : (b == 58) ≡ false
  no_dash : (b == 45) ≡ false
  no_equals : (b == 61) ≡ false
  no_greater : (b == 62) ≡ false

mark_facts : (b : ℕ) → is_mark_byte b ≡ true → IsMark b
mark_facts b h =
    let greater = and_parts _ (not (b == 62)) h in
    let equals = and_parts _ (not (b == 61)) greater.0 in
    let dash = and_parts _ (not (b == 45)) equals.0 in
    let colon = and_parts _ (not (b == 58)) dash.0 in
    let comment = and_parts _ (not (b == 35)) colon.0 in
    let word = and_parts (is_within 33 126 b) (not (is_word_byte b)) comment.0 in
    record {
      printed = word.0;
      no_word = not-true _ word.1;
      no_comment = not-true _ comment.1;
      no_colon = not-true _ colon.1;
      no_dash = not-true _ dash.1;
      no_equals = not-true _ equals.1;
      no_greater = not-true _ greater.1;
    }

-- pieces are tokens
mark_is_token : (text : List ℕ) → is_mark text ≡ true → is_symbol text ≡ true
mark_is_token [] h = cc
mark_is_token (b ∷ []) h =
    let m = mark_facts b h in
    and_from _ _ (and_from _ _ m.printed (not_from_false (is_word_byte b) m.no_word)) (not_from_false (b == 35) m.no_comment)
mark_is_token (b ∷ c ∷ more) h = cc

piece_is_token : (w m s : Bool) → (w || m) ≡ true → (m ≡ true → s ≡ true) → (w || s) ≡ true
piece_is_token true m s h f = refl
piece_is_token false m s h f = f h

pieces_are_tokens : (ts : List (List ℕ)) → list_all is_piece ts ≡ true → list_all is_token ts ≡ true
pieces_are_tokens [] h = refl
pieces_are_tokens (t ∷ ts) h =
    let p = and_parts (is_piece t) (list_all is_piece ts) h in
    and_from _ _ (piece_is_token (is_word t) (is_mark t) (is_symbol t) p.0 (mark_is_token t)) (pieces_are_tokens ts p.1)

-- a mark does not join what is before it
joined_no_mark : (b c : ℕ) → IsMark c → joins b c ≡ false
joined_no_mark b c m =
    or_from _ _ (or_from _ _ (or_from _ _ (and_right (is_word_byte b) (is_word_byte c) m.no_word) (and_right (b == 58) (c == 61) m.no_equals)) (and_right (b == 45) (c == 62) m.no_greater)) (and_right (b == 33) (c == 61) m.no_equals)

before_mark : (t : List ℕ) (c : ℕ) → IsMark c → run_together t (c ∷ []) ≡ false
before_mark [] c m = refl
before_mark (b ∷ []) c m = joined_no_mark b c m
before_mark (a ∷ b ∷ t) c m = before_mark (b ∷ t) c m

-- nor a word what is behind a mark
word_no_equals : (c : ℕ) → is_word_byte c ≡ true → (c == 61) ≡ false
word_no_equals c h = ne_eqb c 61 (λ (e : c ≡ 61). both_ways (is_word_byte 61) refl (ap is_word_byte (sym e) ∙ h))

mark_joins_no_word : (b c : ℕ) → IsMark b → is_word_byte c ≡ true → joins b c ≡ false
mark_joins_no_word b c m h = rw (m.no_word, m.no_colon, m.no_dash, word_no_equals c h) (and_right (b == 33) false refl)

behind_mark : (b : ℕ) (t : List ℕ) → IsMark b → is_word t ≡ true → run_together (b ∷ []) t ≡ false
behind_mark b [] m h = refl
behind_mark b (c ∷ t) m h = mark_joins_no_word b c m (and_parts (is_word_byte c) (list_all is_word_byte t) (and_parts _ (list_all is_word_byte (c ∷ t)) h).1).0

-- so pieces are apart
word_from : (t u : List ℕ) → is_mark t ≡ true → is_word u ≡ true → run_together t u ≡ false
word_from [] u h k = refl
word_from (b ∷ []) u h k = behind_mark b u (mark_facts b h) k
word_from (b ∷ c ∷ t) u h k = cc

mark_from : (t u : List ℕ) → is_mark u ≡ true → run_together t u ≡ false
mark_from t [] h = cc
mark_from t (c ∷ []) h = before_mark t c (mark_facts c h)
mark_from t (b ∷ c ∷ u) h = cc

two_apart : (t u : List ℕ) (w v : Bool) → is_word t ≡ w → is_word u ≡ v → (w || is_mark t) ≡ true → (v || is_mark u) ≡ true → ((w && v) || not (run_together t u)) ≡ true
two_apart t u true true e f h k = refl
two_apart t u true false e f h k = not_from_false (run_together t u) (mark_from t u k)
two_apart t u false true e f h k = not_from_false (run_together t u) (word_from t u h f)
two_apart t u false false e f h k = not_from_false (run_together t u) (mark_from t u k)

pieces_apart : (ts : List (List ℕ)) → list_all is_piece ts ≡ true → are_apart ts ≡ true
pieces_apart [] h = refl
pieces_apart (t ∷ []) h = refl
pieces_apart (t ∷ u ∷ ts) h =
    let p = and_parts (is_piece t) (list_all is_piece (u ∷ ts)) h in
    let q = and_parts (is_piece u) (list_all is_piece ts) p.1 in
    and_from _ _ (two_apart t u (is_word t) (is_word u) refl refl p.0 q.0) (pieces_apart (u ∷ ts) p.1)

-- tokens of pieces
both_pieces : (ts us : List (List ℕ)) → list_all is_piece ts ≡ true → list_all is_piece us ≡ true → list_all is_piece (ts ++ us) ≡ true
both_pieces ts us h k = list_all-append is_piece ts us ∙ and_from _ _ h k

bracketed_pieces : (b : Bool) (ts : List (List ℕ)) → list_all is_piece ts ≡ true → list_all is_piece (bracketed b ts) ≡ true
bracketed_pieces true ts h = both_pieces ts (codes ")" ∷ []) h refl
bracketed_pieces false ts h = h

name_is_piece : (t : List ℕ) → is_name t ≡ true → is_piece t ≡ true
name_is_piece t h = or_left (is_word t) (is_mark t) (and_parts (is_word t) _ (and_parts _ _ h).0).0

listed_pieces : (names : List (List ℕ)) → list_all is_name names ≡ true → list_all is_piece (listed names) ≡ true
listed_pieces [] h = refl
listed_pieces (t ∷ []) h = and_from _ _ (name_is_piece t (and_parts (is_name t) true h).0) refl
listed_pieces (t ∷ u ∷ names) h =
    let p = and_parts (is_name t) (list_all is_name (u ∷ names)) h in
    and_from _ _ (name_is_piece t p.0) (listed_pieces (u ∷ names) p.1)

element_pieces : (a b : Bool) (names : List (List ℕ)) → (a || b || list_all is_name names) ≡ true
    → list_all is_piece (if a then codes "true" ∷ [] else if b then codes "false" ∷ [] else codes "{" ∷ listed names ++ codes "}" ∷ []) ≡ true
element_pieces true b names h = refl
element_pieces false true names h = refl
element_pieces false false names h = both_pieces (listed names) (codes "}" ∷ []) (listed_pieces names h) refl

until_pieces : (left right : List (List ℕ)) → list_all is_piece left ≡ true → list_all is_piece right ≡ true → list_all is_piece (left ++ codes "U" ∷ right ++ codes "]" ∷ []) ≡ true
until_pieces left right h k = both_pieces (left ++ codes "U" ∷ right) (codes "]" ∷ []) (both_pieces left (codes "U" ∷ right) h k) refl

-- the tokens of a formula are pieces
pieces_of : (n : Signature) (t : Tree) → is_named n t ≡ true → list_all is_piece (tokens_of n t) ≡ true
pieces_of n (Const c) h = element_pieces (c == n.top) (c == n.bottom) (digit_names n.parts (digits (sizes_of n.parts) c)) h
pieces_of n (Atom p) h = and_from _ _ (name_is_piece (name_at n.props p) (and_parts (is_name (name_at n.props p)) _ h).0) refl
pieces_of n (Not t) h = bracketed_pieces (is_and t || is_or t) (tokens_of n t) (pieces_of n t h)
pieces_of n (And s t) h =
    let p = and_parts (is_named n s) (is_named n t) h in
    both_pieces (bracketed (is_or s) (tokens_of n s)) (codes "&" ∷ bracketed (is_and t || is_or t) (tokens_of n t))
    (bracketed_pieces (is_or s) (tokens_of n s) (pieces_of n s p.0)) (bracketed_pieces (is_and t || is_or t) (tokens_of n t) (pieces_of n t p.1))
pieces_of n (Or s t) h =
    let p = and_parts (is_named n s) (is_named n t) h in
    both_pieces (tokens_of n s) (codes "|" ∷ bracketed (is_or t) (tokens_of n t)) (pieces_of n s p.0) (bracketed_pieces (is_or t) (tokens_of n t) (pieces_of n t p.1))
pieces_of n (Ex t) h = bracketed_pieces (is_and t || is_or t) (tokens_of n t) (pieces_of n t h)
pieces_of n (Eu s t) h = let p = and_parts (is_named n s) (is_named n t) h in until_pieces (tokens_of n s) (tokens_of n t) (pieces_of n s p.0) (pieces_of n t p.1)
pieces_of n (Au s t) h = let p = and_parts (is_named n s) (is_named n t) h in until_pieces (tokens_of n s) (tokens_of n t) (pieces_of n s p.0) (pieces_of n t p.1)
pieces_of n (Eg t) h = bracketed_pieces (is_and t || is_or t) (tokens_of n t) (pieces_of n t h)

-- and there is one at least
some_element : (a b : Bool) (names : List (List ℕ)) → 0 < length (if a then codes "true" ∷ [] else if b then codes "false" ∷ [] else codes "{" ∷ listed names ++ codes "}" ∷ [])
some_element true b names = omega arith
some_element false true names = omega arith
some_element false false names = omega arith

some_behind : (ts us : List (List ℕ)) (t : List ℕ) → 0 < length (ts ++ t ∷ us)
some_behind ts us t = omega (arith, length-append ts (t ∷ us))

some_token : (n : Signature) (t : Tree) → 0 < length (tokens_of n t)
some_token n (Const c) = some_element (c == n.top) (c == n.bottom) (digit_names n.parts (digits (sizes_of n.parts) c))
some_token n (Atom p) = omega arith
some_token n (Not t) = omega arith
some_token n (And s t) = some_behind (bracketed (is_or s) (tokens_of n s)) (bracketed (is_and t || is_or t) (tokens_of n t)) (codes "&")
some_token n (Or s t) = some_behind (tokens_of n s) (bracketed (is_or t) (tokens_of n t)) (codes "|")
some_token n (Ex t) = omega arith
some_token n (Eu s t) = omega arith
some_token n (Au s t) = omega arith
some_token n (Eg t) = omega arith

-- no piece ends a line
word_inside : (t : List ℕ) → list_all is_word_byte t ≡ true → list_all is_inside t ≡ true
word_inside [] h = refl
word_inside (b ∷ t) h =
    let p = and_parts (is_word_byte b) (list_all is_word_byte t) h in
    and_from _ _ (not_from_false (b == 10) (ne_eqb b 10 (λ (e : b ≡ 10). both_ways (is_word_byte 10) refl (ap is_word_byte (sym e) ∙ p.0)))) (word_inside t p.1)

mark_inside : (t : List ℕ) → is_mark t ≡ true → list_all is_inside t ≡ true
mark_inside [] h = cc
mark_inside (b ∷ []) h =
    let low : 33 ≤ b = leb-true 33 b (and_parts (nat_le 33 b) (nat_le b 126) (mark_facts b h).printed).0 in
    and_from _ _ (not_from_false (b == 10) (ne_eqb b 10 (λ (e : b ≡ 10). omega arith))) refl
mark_inside (b ∷ c ∷ t) h = cc

piece_inside : (t : List ℕ) (w : Bool) → is_word t ≡ w → (w || is_mark t) ≡ true → list_all is_inside t ≡ true
piece_inside t true e h = word_inside t (and_parts _ (list_all is_word_byte t) e).1
piece_inside t false e h = mark_inside t h

gap_inside : (b : Bool) → list_all is_inside (if b then 32 ∷ [] else []) ≡ true
gap_inside true = refl
gap_inside false = refl

pieces_inside : (ts : List (List ℕ)) → list_all is_piece ts ≡ true → list_all is_inside (spaced ts) ≡ true
unfolding spaced
pieces_inside [] h = refl
pieces_inside (t ∷ []) h = piece_inside t (is_word t) refl (and_parts (is_piece t) true h).0
pieces_inside (t ∷ u ∷ ts) h =
    let p = and_parts (is_piece t) (list_all is_piece (u ∷ ts)) h in
    let gap : List ℕ = if is_word t && is_word u then 32 ∷ [] else [] in
    list_all-append is_inside (t ++ gap) (spaced (u ∷ ts))
    ∙ and_from _ _ (list_all-append is_inside t gap ∙ and_from _ _ (piece_inside t (is_word t) refl p.0) (gap_inside (is_word t && is_word u))) (pieces_inside (u ∷ ts) p.1)

-- and each has a byte
piece_some : (t : List ℕ) → is_piece t ≡ true → 0 < length t
piece_some [] h = cc
piece_some (b ∷ t) h = omega arith

spaced_some : (ts : List (List ℕ)) → 0 < length ts → list_all is_piece ts ≡ true → 0 < length (spaced ts)
unfolding spaced
spaced_some [] some h = absurd (omega arith)
spaced_some (t ∷ []) some h = piece_some t (and_parts (is_piece t) true h).0
spaced_some (t ∷ u ∷ ts) some h =
    let gap : List ℕ = if is_word t && is_word u then 32 ∷ [] else [] in
    let one = piece_some t (and_parts (is_piece t) (list_all is_piece (u ∷ ts)) h).0 in
    omega (arith, one, length-append (t ++ gap) (spaced (u ∷ ts)), length-append t gap)

-- so the text of a formula is one line
pub text_inside : (n : Signature) (t : Tree) → is_named n t ≡ true → list_all is_inside (text_of n t) ≡ true
text_inside n t h = pieces_inside (tokens_of n t) (pieces_of n t h)

pub text_some : (n : Signature) (t : Tree) → is_named n t ≡ true → 0 < length (text_of n t)
text_some n t h = spaced_some (tokens_of n t) (some_token n t) (pieces_of n t h)

-- and its tokens are one
pub tokens_are_line : (n : Signature) (t : Tree) → is_named n t ≡ true → is_line (tokens_of n t) ≡ true
tokens_are_line n t h =
    let pieces = pieces_of n t h in
    and_from _ _ (and_from _ _ (lt-ltb 0 (length (tokens_of n t)) (some_token n t)) (pieces_are_tokens (tokens_of n t) pieces)) (pieces_apart (tokens_of n t) pieces)
