-- The tokens of a text are parts of it.
use Rattle.std.proofs.Common.{◌≡◌, ℕ, ◌+◌, ◌<◌, ◌≤◌, Bool, true, false, eqb, leb, ◌&&◌, List, [], ◌∷◌, length, refl, inl, inr, arith}
use Rattle.std.specs.List.{list_all}
use Rattle.std.proofs.lemmas.Bool.{cases_Bool, and_parts, and_from, leb-true, le-leb, lt-ltb, ltb-true}
use Rattle.xc_base.specs.Text.{lines_of, onto_first, is_blank, joins_next, with_byte, tokens_from, with_line, rows_from, rows_of, is_part, are_within}
use Rattle.xc_base.specs.Words.{is_word_byte}
use Rattle.xc_base.specs.declared.lines.Token.{Token}
use Rattle.xc_base.specs.declared.lines.Line.{Line}

-- a token that is a part of a text, from a place on
abbrev is_part_from : ℕ → ℕ → Token → Bool
is_part_from low size t = leb low t.start && is_part size t

abbrev are_parts_from : ℕ → ℕ → List Token → Bool
are_parts_from low size tokens = list_all (is_part_from low size) tokens

part_facts : (low size : ℕ) (t : Token) → is_part_from low size t ≡ true → (low ≤ t.start) × (t.start < t.end) × (t.end ≤ size)
part_facts low size t h =
    let p = and_parts _ _ h in
    let q = and_parts _ _ p.1 in
    (leb-true _ _ p.0, ltb-true _ _ q.0, leb-true _ _ q.1)

part_from_facts : (low size : ℕ) (t : Token) → low ≤ t.start → t.start < t.end → t.end ≤ size → is_part_from low size t ≡ true
part_from_facts low size t a b c = and_from _ _ (le-leb _ _ a) (and_from _ _ (lt-ltb _ _ b) (le-leb _ _ c))

parts_from_below : (low place size : ℕ) (tokens : List Token) → low ≤ place → are_parts_from place size tokens ≡ true → are_parts_from low size tokens ≡ true
parts_from_below low place size [] h a = refl
parts_from_below low place size (t ∷ tokens) h a =
    let p = and_parts _ _ a in
    let f = part_facts place size t p.0 in
    and_from _ _ (part_from_facts low size t (omega arith) f.1 f.2) (parts_from_below low place size tokens h p.1)

-- one byte more in front
parts_with_byte : (place size b : ℕ) (joined : Bool) (tokens : List Token) → place + 1 ≤ size → are_parts_from (place + 1) size tokens ≡ true → are_parts_from place size (with_byte place b joined tokens) ≡ true
parts_with_byte place size b false tokens h a =
    and_from _ _ (part_from_facts place size (record { start = place; end = place + 1; word = is_word_byte b }) (omega arith) (omega arith) h) (parts_from_below place (place + 1) size tokens (omega arith) a)
parts_with_byte place size b true [] h a = refl
parts_with_byte place size b true (t ∷ tokens) h a =
    let p = and_parts _ _ a in
    let f = part_facts (place + 1) size t p.0 in
    and_from _ _ (part_from_facts place size (record t { start = place }) (omega arith) (omega arith) f.2) (parts_from_below place (place + 1) size tokens (omega arith) p.1)

parts_of_line : (place size : ℕ) (line : List ℕ) → place + length line ≤ size → are_parts_from place size (tokens_from place line) ≡ true
unfolding tokens_from
parts_of_line place size [] h = refl
parts_of_line place size (b ∷ line) h =
    let rest = parts_of_line (place + 1) size line (omega arith) in
    elim (cases_Bool (eqb b 35)) [
      | inl c ↦ simp c
      | inr c ↦ elim (cases_Bool (is_blank b)) [
        | inl k ↦ simp (c, k) (parts_from_below place (place + 1) size _ (omega arith) rest)
        | inr k ↦ simp (c, k) (parts_with_byte place size b (joins_next b line) _ (omega arith) rest)
      ]
    ]

parts_alone : (low size : ℕ) (tokens : List Token) → are_parts_from low size tokens ≡ true → list_all (is_part size) tokens ≡ true
parts_alone low size [] a = refl
parts_alone low size (t ∷ tokens) a =
    let p = and_parts _ _ a in
    and_from _ _ (and_parts _ _ p.0).1 (parts_alone low size tokens p.1)

-- how many bytes lines have, each with its end
abbrev lines_size : List (List ℕ) → ℕ
lines_size [] = 0
lines_size (line ∷ lines) = length line + 1 + lines_size lines

size_onto_some : (b : ℕ) (lines : List (List ℕ)) (n : ℕ) → lines_size lines ≤ n + 1 → lines_size (onto_first b lines) ≤ n + 2
size_onto_some b [] n h = omega arith
size_onto_some b (line ∷ lines) n h = omega arith

lines_size_within : (bytes : List ℕ) → lines_size (lines_of bytes) ≤ length bytes + 1
unfolding lines_of
lines_size_within [] = omega arith
lines_size_within (b ∷ bytes) =
    let i = lines_size_within bytes in
    elim (cases_Bool (eqb b 10)) [ inl e ↦ simp e (omega arith) | inr e ↦ simp e (let m = size_onto_some b (lines_of bytes) (length bytes) i in omega arith) ]

within_with_line : (number size : ℕ) (tokens : List Token) (rows : List Line) → list_all (is_part size) tokens ≡ true → are_within size rows ≡ true → are_within size (with_line number tokens rows) ≡ true
within_with_line number size [] rows a h = h
within_with_line number size (t ∷ tokens) rows a h = and_from _ _ a h

rows_from_within : (number place size : ℕ) (lines : List (List ℕ)) → place + lines_size lines ≤ size + 1 → are_within size (rows_from number place lines) ≡ true
unfolding rows_from
rows_from_within number place size [] h = refl
rows_from_within number place size (line ∷ lines) h =
    within_with_line number size (tokens_from place line) (rows_from (number + 1) (place + length line + 1) lines)
    (parts_alone place size _ (parts_of_line place size line (omega arith)))
    (rows_from_within (number + 1) (place + length line + 1) size lines (omega arith))

-- each token of a text is a part of it
pub rows_within : (bytes : List ℕ) → are_within (length bytes) (rows_of bytes) ≡ true
rows_within bytes = rows_from_within 1 0 (length bytes) (lines_of bytes) (omega (arith, lines_size_within bytes))
