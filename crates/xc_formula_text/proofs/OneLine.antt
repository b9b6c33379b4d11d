-- A file of one line has the same row and the same fault, whether its line is ended or not.
use Rattle.std.proofs.Common.{◌≡◌, ℕ, ◌-◌, ◌<◌, ◌≤◌, Bool, true, false, not, ◌==◌, List, [], ◌∷◌, ◌++◌, map, length, length-drop, take, drop, None, refl, sym, ◌∙◌, ap, arith}
use Rattle.std.specs.List.{list_all}
use Rattle.std.proofs.lemmas.Bool.{and_parts, not-true, ltb-true, leb-true, le-ltb, cond-false}
use Rattle.std.proofs.lemmas.List.{take-append-le, drop-append-le}
use Rattle.xc_base.specs.Lines.{row_of, text_rows}
use Rattle.xc_base.specs.Text.{lines_of, onto_first, rows_from, rows_of, first_fault_from, text_fault, token_text, is_part, are_within}
use Rattle.xc_base.specs.declared.lines.Line.{Line}
use Rattle.xc_base.specs.declared.lines.Token.{Token}
use Rattle.xc_base.proofs.Within.{rows_within}

-- a byte that ends no line
abbrev pub is_inside : ℕ → Bool
is_inside b = not (b == 10)

inside_onto : (b : ℕ) (bytes : List ℕ) → (b == 10) ≡ false → lines_of (b ∷ bytes) ≡ onto_first b (lines_of bytes)
unfolding lines_of
inside_onto b bytes e = simp e

-- the line of such bytes, ended and not
ended_line : (bytes : List ℕ) → list_all is_inside bytes ≡ true → lines_of (bytes ++ 10 ∷ []) ≡ bytes ∷ []
unfolding lines_of
ended_line [] h = refl
ended_line (b ∷ bytes) h =
    let p = and_parts (is_inside b) (list_all is_inside bytes) h in
    inside_onto b (bytes ++ 10 ∷ []) (not-true (b == 10) p.0) ∙ ap (onto_first b) (ended_line bytes p.1)

open_line : (b : ℕ) (bytes : List ℕ) → list_all is_inside (b ∷ bytes) ≡ true → lines_of (b ∷ bytes) ≡ (b ∷ bytes) ∷ []
unfolding lines_of
open_line b [] h = inside_onto b [] (not-true (b == 10) (and_parts (is_inside b) true h).0)
open_line b (c ∷ bytes) h =
    let p = and_parts (is_inside b) (list_all is_inside (c ∷ bytes)) h in
    inside_onto b (c ∷ bytes) (not-true (b == 10) p.0) ∙ ap (onto_first b) (open_line c bytes p.1)

same_lines : (bytes : List ℕ) → 0 < length bytes → list_all is_inside bytes ≡ true → lines_of (bytes ++ 10 ∷ []) ≡ lines_of bytes
same_lines [] some h = absurd (omega arith)
same_lines (b ∷ bytes) some h = ended_line (b ∷ bytes) h ∙ sym (open_line b bytes h)

-- tokens of a text are the same with a byte behind it
same_token : (bytes : List ℕ) (t : Token) → is_part (length bytes) t ≡ true → token_text (bytes ++ 10 ∷ []) t ≡ token_text bytes t
same_token bytes t h =
    let p = and_parts _ _ h in
    let low : t.start < t.end = ltb-true t.start t.end p.0 in
    let high : t.end ≤ length bytes = leb-true t.end (length bytes) p.1 in
    let start : t.start ≤ length bytes = omega arith in
    let size : t.end - t.start ≤ length (drop t.start bytes) = omega (arith, length-drop t.start bytes) in
    ap (take (t.end - t.start)) (drop-append-le t.start bytes (10 ∷ []) start) ∙ take-append-le (t.end - t.start) (drop t.start bytes) (10 ∷ []) size

same_tokens : (bytes : List ℕ) (tokens : List Token) → list_all (is_part (length bytes)) tokens ≡ true → map (token_text (bytes ++ 10 ∷ [])) tokens ≡ map (token_text bytes) tokens
same_tokens bytes [] h = refl
same_tokens bytes (t ∷ tokens) h =
    let p = and_parts (is_part (length bytes) t) (list_all (is_part (length bytes)) tokens) h in
    cc (same_token bytes t p.0, same_tokens bytes tokens p.1)

same_rows : (bytes : List ℕ) (lines : List Line) → are_within (length bytes) lines ≡ true → map (row_of (bytes ++ 10 ∷ [])) lines ≡ map (row_of bytes) lines
same_rows bytes [] h = refl
same_rows bytes (line ∷ lines) h =
    let p = and_parts (list_all (is_part (length bytes)) line.tokens) (are_within (length bytes) lines) h in
    let row : row_of (bytes ++ 10 ∷ []) line ≡ row_of bytes line = ap (λ (tokens : List (List ℕ)). record { number = line.number; tokens = tokens }) (same_tokens bytes line.tokens p.0) in
    cc (row, same_rows bytes lines p.1)

-- so the rows of the text are
pub rows_alike : (bytes : List ℕ) → 0 < length bytes → list_all is_inside bytes ≡ true → text_rows (bytes ++ 10 ∷ []) ≡ text_rows bytes
rows_alike bytes some h =
    ap (λ (lines : List (List ℕ)). map (row_of (bytes ++ 10 ∷ [])) (rows_from 1 0 lines)) (same_lines bytes some h) ∙ same_rows bytes (rows_of bytes) (rows_within bytes)

-- and its fault, where its length has none
pub fault_alike : (bytes : List ℕ) (limit : ℕ) → 0 < length bytes → list_all is_inside bytes ≡ true → text_fault (length (bytes ++ 10 ∷ [])) (bytes ++ 10 ∷ []) ≡ None → length bytes ≤ limit → text_fault limit bytes ≡ None
fault_alike bytes limit some h none few =
    let ended : first_fault_from 1 (lines_of (bytes ++ 10 ∷ [])) ≡ None = sym (cond-false _ _ _ (le-ltb (length (bytes ++ 10 ∷ [])) (length (bytes ++ 10 ∷ [])) (omega arith))) ∙ none in
    cond-false _ _ _ (le-ltb limit (length bytes) few) ∙ (ap (first_fault_from 1) (sym (same_lines bytes some h)) ∙ ended)
