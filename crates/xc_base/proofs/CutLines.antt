-- How a text splits at its first line feed.
use Rattle.std.proofs.Common.{◌≡◌, ℕ, suc, ◌+◌, ◌-◌, ◌<◌, ◌≤◌, Bool, true, false, cond, not, eqb, List, [], ◌∷◌, ◌++◌, length, take, drop, refl, ap, sym, ◌∙◌, inl, inr, arith}
use Rattle.std.specs.Prelude.{Option, Some, None, nat_lt}
use Rattle.std.specs.List.{position_or_len, list_any}
use Rattle.std.proofs.lemmas.Bool.{cases_Bool, cond-false, le-ltb}
use Rattle.std.proofs.lemmas.List.{drop-drop, drop-take, drop_all, take_rest, append_assoc, append-nil, length-drop, length-take-le}
use Rattle.std.proofs.lemmas.List.Sums.{prefix_len-le-length}
use Rattle.xc_base.specs.Text.{lines_of, onto_first, tokens_from, with_line, rows_from, first_fault_from, is_allowed, text_fault, IsTextFault}
use Rattle.xc_base.specs.Cutting.{IsFaultOf}
use Rattle.xc_base.specs.declared.fault.TextFault.{TextFault}
use Rattle.xc_base.specs.declared.fault.TextFault.TheVariants.{LongFile, BadByte, LongLine, Memory}
use Rattle.xc_base.specs.declared.lines.Token.{Token}
use Rattle.xc_base.specs.declared.lines.Line.{Line}

-- the place of the first line feed, or the length
abbrev pub line_size : List ℕ → ℕ
line_size xs = position_or_len (λ b. eqb b 10) xs

line_size_more : (b : ℕ) (xs : List ℕ) → eqb b 10 ≡ false → line_size (b ∷ xs) ≡ suc (line_size xs)
line_size_more b xs e = simp e (omega arith)

lines_of_onto : (b : ℕ) (xs : List ℕ) → eqb b 10 ≡ false → lines_of (b ∷ xs) ≡ onto_first b (lines_of xs)
unfolding lines_of
lines_of_onto b xs e = simp e

-- the first line where a line feed stands first, where one byte stands alone, and where more bytes follow
first_line_ends : (b : ℕ) (xs : List ℕ) → eqb b 10 ≡ true → lines_of (b ∷ xs) ≡ take (line_size (b ∷ xs)) (b ∷ xs) ∷ lines_of (drop (line_size (b ∷ xs) + 1) (b ∷ xs))
unfolding lines_of
first_line_ends b xs e = simp e

first_line_alone : (b : ℕ) → eqb b 10 ≡ false → lines_of (b ∷ []) ≡ take (line_size (b ∷ [])) (b ∷ []) ∷ lines_of (drop (line_size (b ∷ []) + 1) (b ∷ []))
unfolding lines_of
first_line_alone b e = simp e

first_line_more : (b m n : ℕ) (xs : List ℕ) → eqb b 10 ≡ false → lines_of xs ≡ take m xs ∷ lines_of (drop (m + 1) xs) → n ≡ suc m → lines_of (b ∷ xs) ≡ take n (b ∷ xs) ∷ lines_of (drop (n + 1) (b ∷ xs))
first_line_more b m n xs e h s =
    let f : n + 1 ≡ suc (m + 1) = omega arith in
    lines_of_onto b xs e ∙ (ap (onto_first b) h ∙ rw (f, s) refl)

first_line : (b : ℕ) (xs : List ℕ) → lines_of (b ∷ xs) ≡ take (line_size (b ∷ xs)) (b ∷ xs) ∷ lines_of (drop (line_size (b ∷ xs) + 1) (b ∷ xs))
first_line b [] = elim (cases_Bool (eqb b 10)) [ inl e ↦ first_line_ends b [] e | inr e ↦ first_line_alone b e ]
first_line b (c ∷ xs) =
    elim (cases_Bool (eqb b 10)) [ inl e ↦ first_line_ends b (c ∷ xs) e | inr e ↦ first_line_more b _ _ (c ∷ xs) e (first_line c xs) (line_size_more b (c ∷ xs) e) ]

first_line_of : (xs : List ℕ) → 0 < length xs → lines_of xs ≡ take (line_size xs) xs ∷ lines_of (drop (line_size xs + 1) xs)
first_line_of [] h = absurd (omega arith)
first_line_of (b ∷ xs) h = first_line b xs

-- how many bytes stand from a place of a text up to its next line feed
abbrev pub line_size_at : List ℕ → ℕ → ℕ
line_size_at bytes place = line_size (take (length bytes - place) (drop place bytes))

line_size_at_drop : (bytes : List ℕ) (place : ℕ) → line_size_at bytes place ≡ line_size (drop place bytes)
line_size_at_drop bytes place = ap line_size (take_rest bytes place)

line_end_within : (bytes : List ℕ) (place : ℕ) → place < length bytes → place + line_size_at bytes place ≤ length bytes
line_end_within bytes place within =
    omega (arith, line_size_at_drop bytes place, length-drop place bytes, prefix_len-le-length (λ x. not (eqb x 10)) (drop place bytes))

-- the lines from a place on: the first goes up to the line feed
line_at : (bytes : List ℕ) (place : ℕ) → place < length bytes → lines_of (drop place bytes) ≡ drop place (take (place + line_size_at bytes place) bytes) ∷ lines_of (drop (place + line_size_at bytes place + 1) bytes)
line_at bytes place within =
    let n = line_size (drop place bytes) in
    let e : line_size_at bytes place ≡ n = line_size_at_drop bytes place in
    let some : 0 < length (drop place bytes) = omega (arith, length-drop place bytes) in
    let after : place + (n + 1) ≡ place + line_size_at bytes place + 1 = omega arith in
    let front : take n (drop place bytes) ≡ drop place (take (place + line_size_at bytes place) bytes) = sym (drop-take place n bytes) ∙ ap (λ k. drop place (take (place + k) bytes)) (sym e) in
    let rest : drop (n + 1) (drop place bytes) ≡ drop (place + line_size_at bytes place + 1) bytes = drop-drop (n + 1) place bytes ∙ ap (λ k. drop k bytes) after in
    first_line_of (drop place bytes) some ∙ (ap (λ l. l ∷ lines_of (drop (n + 1) (drop place bytes))) front ∙ ap (λ l. drop place (take (place + line_size_at bytes place) bytes) ∷ lines_of l) rest)

-- the line from a place on, up to the line feed
abbrev pub line_from : List ℕ → ℕ → List ℕ
line_from bytes place = drop place (take (place + line_size_at bytes place) bytes)

-- the rows of the first line and of the others
with_line_split : (number : ℕ) (tokens : List Token) (rows : List Line) → with_line number tokens rows ≡ with_line number tokens [] ++ rows
with_line_split number [] rows = refl
with_line_split number (t ∷ tokens) rows = refl

rows_split : (number place next : ℕ) (line : List ℕ) (lines : List (List ℕ)) → next ≡ place + length line + 1 → rows_from number place (line ∷ lines) ≡ rows_from number place (line ∷ []) ++ rows_from (number + 1) next lines
unfolding rows_from
rows_split number place next line lines e = rw e (with_line_split number (tokens_from place line) _)

rows_from_line : (bytes : List ℕ) (number place : ℕ) → place < length bytes → rows_from number place (lines_of (drop place bytes)) ≡ rows_from number place (line_from bytes place ∷ []) ++ rows_from (number + 1) (place + line_size_at bytes place + 1) (lines_of (drop (place + line_size_at bytes place + 1) bytes))
rows_from_line bytes number place within =
    let end = place + line_size_at bytes place in
    let size : length (line_from bytes place) ≡ end - place = length-drop place (take end bytes) ∙ ap (λ n. n - place) (length-take-le end bytes (line_end_within bytes place within)) in
    ap (rows_from number place) (line_at bytes place within)
    ∙ rows_split number place (end + 1) (line_from bytes place) _ (omega arith)

-- rows with those of the lines from a place on, where a line begins and at the end
pub rows_at : (rows : List Line) (bytes : List ℕ) (number place : ℕ) → place < length bytes → rows ++ rows_from number place (lines_of (drop place bytes)) ≡ (rows ++ rows_from number place (line_from bytes place ∷ [])) ++ rows_from (number + 1) (place + line_size_at bytes place + 1) (lines_of (drop (place + line_size_at bytes place + 1) bytes))
rows_at rows bytes number place within =
    ap (λ more. rows ++ more) (rows_from_line bytes number place within) ∙ sym (append_assoc rows _ _)

pub rows_at_end : (rows : List Line) (bytes : List ℕ) (number place : ℕ) → length bytes ≤ place → rows ++ rows_from number place (lines_of (drop place bytes)) ≡ rows
unfolding lines_of rows_from
rows_at_end rows bytes number place h = rw (drop_all place bytes h) (append-nil rows)

-- the fault of the first line, or of the others
no_fault_first : (p q : Bool) (x y : TextFault) (z : Option TextFault) → cond p (Some x) (cond q (Some y) None) ≡ None → cond p (Some x) (cond q (Some y) z) ≡ z
no_fault_first true q x y z h = cc
no_fault_first false true x y z h = cc
no_fault_first false false x y z h = refl

fault_first : (p q : Bool) (x y e : TextFault) (z : Option TextFault) → cond p (Some x) (cond q (Some y) None) ≡ Some e → cond p (Some x) (cond q (Some y) z) ≡ Some e
fault_first true q x y e z h = h
fault_first false true x y e z h = h
fault_first false false x y e z h = cc

faultless_line : (number : ℕ) (line : List ℕ) (lines : List (List ℕ)) → first_fault_from number (line ∷ []) ≡ None → first_fault_from number (line ∷ lines) ≡ first_fault_from (number + 1) lines
unfolding first_fault_from
faultless_line number line lines h = no_fault_first (list_any (λ b. not (is_allowed b)) line) (nat_lt 4096 (length line)) (BadByte number) (LongLine number) _ h

faulty_line : (number : ℕ) (line : List ℕ) (lines : List (List ℕ)) (e : TextFault) → first_fault_from number (line ∷ []) ≡ Some e → first_fault_from number (line ∷ lines) ≡ Some e
unfolding first_fault_from
faulty_line number line lines e h = fault_first (list_any (λ b. not (is_allowed b)) line) (nat_lt 4096 (length line)) (BadByte number) (LongLine number) e (first_fault_from (number + 1) lines) h

-- the fault of the lines from a place on, where the first has none, where it has one, and at the end
pub faultless_at : (bytes : List ℕ) (number place : ℕ) → place < length bytes → first_fault_from number (line_from bytes place ∷ []) ≡ None → first_fault_from number (lines_of (drop place bytes)) ≡ first_fault_from (number + 1) (lines_of (drop (place + line_size_at bytes place + 1) bytes))
faultless_at bytes number place within h =
    ap (first_fault_from number) (line_at bytes place within) ∙ faultless_line number _ _ h

faulty_at : (bytes : List ℕ) (number place : ℕ) (fault : TextFault) → place < length bytes → first_fault_from number (line_from bytes place ∷ []) ≡ Some fault → first_fault_from number (lines_of (drop place bytes)) ≡ Some fault
faulty_at bytes number place fault within h =
    ap (first_fault_from number) (line_at bytes place within) ∙ faulty_line number _ _ fault h

pub no_fault_at_end : (bytes : List ℕ) (number place : ℕ) → length bytes ≤ place → first_fault_from number (lines_of (drop place bytes)) ≡ None
unfolding lines_of first_fault_from
no_fault_at_end bytes number place h = rw (drop_all place bytes h) refl

-- the fault of a line is the text's, where the lines before it have none
fault_of_lines : (limit : ℕ) (bytes : List ℕ) (fault : TextFault) → length bytes ≤ limit → first_fault_from 1 (lines_of bytes) ≡ Some fault → text_fault limit bytes ≡ Some fault
fault_of_lines limit bytes fault small h = cond-false _ _ _ (le-ltb limit (length bytes) small) ∙ h

pub fault_of_text : (bytes : List ℕ) (limit number place : ℕ) (fault : TextFault) → length bytes ≤ limit → place < length bytes → first_fault_from number (lines_of (drop place bytes)) ≡ first_fault_from 1 (lines_of bytes) → IsFaultOf (first_fault_from number (line_from bytes place ∷ [])) fault → IsTextFault limit bytes fault
fault_of_text bytes limit number place LongFile small within i h = fault_of_lines limit bytes _ small (sym i ∙ faulty_at bytes number place _ within h)
fault_of_text bytes limit number place (BadByte l) small within i h = fault_of_lines limit bytes _ small (sym i ∙ faulty_at bytes number place _ within h)
fault_of_text bytes limit number place (LongLine l) small within i h = fault_of_lines limit bytes _ small (sym i ∙ faulty_at bytes number place _ within h)
fault_of_text bytes limit number place Memory small within i h = tt

-- what a loop over the lines goes by
pub ruleset line_steps = (rows_at, rows_at_end, faultless_at, no_fault_at_end, fault_of_text)
