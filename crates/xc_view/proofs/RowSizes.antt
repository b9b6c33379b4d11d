-- The rows of a text that has no fault are short.
use Rattle.std.proofs.Common.{◌≡◌, ℕ, ◌+◌, ◌≤◌, Bool, true, false, not, ◌==◌, nat_lt, if◌then◌else◌, List, [], ◌∷◌, ◌++◌, length, map, length-append, append_assoc, append-nil, Some, None, refl, ap, sym, ◌∙◌, subst, inl, inr, ◌⊎◌, arith}
use Rattle.std.specs.List.{list_all, list_any}
use Rattle.std.proofs.lemmas.Bool.{and_from, ltb-false, le-leb, eqb-true}
use Rattle.xc_base.specs.Canonical.{spaced, is_short}
use Rattle.xc_base.specs.Formats.{Row}
use Rattle.xc_base.specs.Lines.{row_of}
use Rattle.xc_base.specs.Text.{lines_of, onto_first, is_allowed, tokens_from, with_line, rows_from, first_fault_from, token_text}
use Rattle.xc_base.specs.declared.fault.TextFault.TheVariants.{LongFile, BadByte, LongLine}
use Rattle.xc_base.specs.declared.lines.Token.{Token}
use Rattle.xc_base.specs.declared.lines.Line.{Line}
use Rattle.xc_view.specs.Cut.{AreCut}
use Rattle.xc_view.proofs.LineSizes.{tokens_within}

-- an option with a value is not empty
some_is_not : {X : Type 0} (x : X) → Some x ≡ None → ⊥
some_is_not x e = cc

-- a row with no more tokens than a line has room for
abbrev pub is_row_short : Row → Bool
is_row_short row = is_short row.tokens

-- a text is empty, or a line that ends and what stands behind it, or a line that does not end
abbrev IsEmpty : List ℕ → Type 0
IsEmpty bytes = (bytes ≡ []) × (lines_of bytes ≡ [])

abbrev IsEnded : List ℕ → Type 0
IsEnded bytes = (line : List ℕ) × ((rest : List ℕ) × ((bytes ≡ line ++ 10 ∷ rest) × (lines_of bytes ≡ line ∷ lines_of rest)))

abbrev IsLast : List ℕ → Type 0
IsLast bytes = lines_of bytes ≡ bytes ∷ []

no_lines : lines_of [] ≡ []
unfolding lines_of
no_lines = refl

line_ends : (b : ℕ) (bytes : List ℕ) → (b == 10) ≡ true → lines_of (b ∷ bytes) ≡ [] ∷ lines_of bytes
unfolding lines_of
line_ends b bytes e = rw e refl

line_goes_on : (b : ℕ) (bytes : List ℕ) → (b == 10) ≡ false → lines_of (b ∷ bytes) ≡ onto_first b (lines_of bytes)
unfolding lines_of
line_goes_on b bytes e = rw e refl

split_byte : (b : ℕ) (bytes : List ℕ) (feed : Bool) → (b == 10) ≡ feed → IsEmpty bytes ⊎ (IsEnded bytes ⊎ IsLast bytes) → IsEmpty (b ∷ bytes) ⊎ (IsEnded (b ∷ bytes) ⊎ IsLast (b ∷ bytes))
split_byte b bytes true e s = inr (inl ([], (bytes, (ap (λ (c : ℕ). c ∷ bytes) (eqb-true b 10 e), line_ends b bytes e))))
split_byte b bytes false e (inl (none, nothing)) = inr (inr (line_goes_on b bytes e ∙ ap (onto_first b) nothing ∙ ap (λ (t : List ℕ). (b ∷ t) ∷ []) (sym none)))
split_byte b bytes false e (inr (inl (line, (rest, (same, lines))))) =
    inr (inl (b ∷ line, (rest, (ap (λ (t : List ℕ). b ∷ t) same, line_goes_on b bytes e ∙ ap (onto_first b) lines))))
split_byte b bytes false e (inr (inr last)) = inr (inr (line_goes_on b bytes e ∙ ap (onto_first b) last))

split : (bytes : List ℕ) → IsEmpty bytes ⊎ (IsEnded bytes ⊎ IsLast bytes)
split [] = inl (refl, no_lines)
split (b ∷ bytes) = split_byte b bytes (b == 10) refl (split bytes)

-- a line with no fault, and those behind it
module _ (number : ℕ) (line : List ℕ) (lines : List (List ℕ)) where
  parts : (bad long : Bool) (n : ℕ) → nat_lt 4096 n ≡ long → (if bad then Some (BadByte number) else if long then Some (LongLine number) else first_fault_from (number + 1) lines) ≡ None
      → (n ≤ 4096) × (first_fault_from (number + 1) lines ≡ None)
  parts true long n e h = absurd (some_is_not (BadByte number) h)
  parts false true n e h = absurd (some_is_not (LongLine number) h)
  parts false false n e h = (ltb-false 4096 n e, h)

  faultless_line : first_fault_from number (line ∷ lines) ≡ None → (length line ≤ 4096) × (first_fault_from (number + 1) lines ≡ None)
  unfolding first_fault_from
  faultless_line h = parts (list_any (λ b. not (is_allowed b)) line) (nat_lt 4096 (length line)) (length line) refl h

-- a row more that is short
row_more : (source : List ℕ) (number : ℕ) (ts : List Token) (rows : List Line) → is_short (map (token_text source) ts) ≡ true → list_all is_row_short (map (row_of source) rows) ≡ true → list_all is_row_short (map (row_of source) (with_line number ts rows)) ≡ true
row_more source number [] rows h k = k
row_more source number (t ∷ ts) rows h k = and_from (is_short (map (token_text source) (t ∷ ts))) (list_all is_row_short (map (row_of source) rows)) h k

line_short : (source front line back : List ℕ) (place : ℕ) → source ≡ front ++ (line ++ back) → place ≡ length front → length line ≤ 4096 → is_short (map (token_text source) (tokens_from place line)) ≡ true
line_short source front line back place s e h =
    le-leb (length (spaced (map (token_text source) (tokens_from place line)))) 4096 (omega (arith, tokens_within source front line back place s e))

-- the rows of lines that begin at a place of the source
abbrev AreShort : List ℕ → List (List ℕ) → Type 0
AreShort source lines =
    (front bytes : List ℕ) (number place : ℕ) → lines_of bytes ≡ lines → source ≡ front ++ bytes → place ≡ length front → first_fault_from number lines ≡ None
    → list_all is_row_short (map (row_of source) (rows_from number place lines)) ≡ true

nothing_short : (source : List ℕ) (number place : ℕ) → list_all is_row_short (map (row_of source) (rows_from number place [])) ≡ true
unfolding rows_from
nothing_short source number place = refl

-- a line and those behind it
module _ (source line : List ℕ) (lines : List (List ℕ)) (more : AreShort source lines) (front bytes : List ℕ) (number place : ℕ) (l : lines_of bytes ≡ line ∷ lines) (s : source ≡ front ++ bytes) (e : place ≡ length front)
    (small : length line ≤ 4096) (faultless : first_fault_from (number + 1) lines ≡ None)
  where
    by_split : IsEmpty bytes ⊎ (IsEnded bytes ⊎ IsLast bytes) → list_all is_row_short (map (row_of source) (with_line number (tokens_from place line) (rows_from (number + 1) (place + length line + 1) lines))) ≡ true
    by_split (inl (none, nothing)) = let never : [] ≡ line ∷ lines = sym nothing ∙ l in cc
    by_split (inr (inl (own, (rest, (same, split_lines))))) =
        let both : own ∷ lines_of rest ≡ line ∷ lines = sym split_lines ∙ l in
        let first : own ≡ line = cc in
        let others : lines_of rest ≡ lines = cc in
        let here : source ≡ front ++ (line ++ 10 ∷ rest) = s ∙ ap (λ (t : List ℕ). front ++ t) (same ∙ ap (λ (t : List ℕ). t ++ 10 ∷ rest) first) in
        let behind : source ≡ (front ++ (line ++ 10 ∷ [])) ++ rest = here ∙ sym (append_assoc front (line ++ 10 ∷ []) rest ∙ ap (λ (t : List ℕ). front ++ t) (append_assoc line (10 ∷ []) rest)) in
        let at : place + length line + 1 ≡ length (front ++ (line ++ 10 ∷ [])) = omega (arith, length-append front (line ++ 10 ∷ []), length-append line (10 ∷ [])) in
        row_more source number (tokens_from place line) (rows_from (number + 1) (place + length line + 1) lines) (line_short source front line (10 ∷ rest) place here e small)
        (more (front ++ (line ++ 10 ∷ [])) rest (number + 1) (place + length line + 1) others behind at faultless)
    by_split (inr (inr last)) =
        let both : bytes ∷ [] ≡ line ∷ lines = sym last ∙ l in
        let first : bytes ≡ line = cc in
        let others : [] ≡ lines = cc in
        let here : source ≡ front ++ (line ++ []) = s ∙ ap (λ (t : List ℕ). front ++ t) (first ∙ sym (append-nil line)) in
        row_more source number (tokens_from place line) (rows_from (number + 1) (place + length line + 1) lines) (line_short source front line [] place here e small)
        (subst (λ (after : List (List ℕ)). list_all is_row_short (map (row_of source) (rows_from (number + 1) (place + length line + 1) after)) ≡ true) others (nothing_short source (number + 1) (place + length line + 1)))

next_row : (source line : List ℕ) (lines : List (List ℕ)) → AreShort source lines → AreShort source (line ∷ lines)
unfolding rows_from
next_row source line lines more front bytes number place l s e h =
    let fine = faultless_line number line lines h in
    by_split source line lines more front bytes number place l s e fine.0 fine.1 (split bytes)

rows_short : (source : List ℕ) (lines : List (List ℕ)) → AreShort source lines
rows_short source [] = λ front bytes number place l s e h. nothing_short source number place
rows_short source (line ∷ lines) = next_row source line lines (rows_short source lines)

-- a text within its limit has the fault of its lines
line_fault : (limit : ℕ) (bytes : List ℕ) (long : Bool) → (if long then Some LongFile else first_fault_from 1 (lines_of bytes)) ≡ None → first_fault_from 1 (lines_of bytes) ≡ None
line_fault limit bytes true h = absurd (some_is_not LongFile h)
line_fault limit bytes false h = h

-- the rows of a text that is cut
pub cut_rows_are_short : (text : List ℕ) (rows : List Row) → AreCut text rows → list_all is_row_short rows ≡ true
cut_rows_are_short text rows h =
    ap (list_all is_row_short) h.own ∙ rows_short text (lines_of text) [] text 1 0 refl refl refl
    (line_fault h.limit text (nat_lt h.limit (length text)) h.sound)
