-- How a line splits at its tokens.
use Rattle.std.proofs.Common.{◌≡◌, ℕ, suc, ◌+◌, ◌-◌, ◌<◌, ◌≤◌, Bool, true, false, eqb, ◌&&◌, List, [], ◌∷◌, length, take, drop, get_or, refl, ap, sym, ◌∙◌, inl, inr, arith}
use Rattle.std.specs.List.{prefix_len}
use Rattle.std.proofs.lemmas.Grind.{common_steps}
use Rattle.std.proofs.lemmas.Bool.{cases_Bool, or_cases, and_parts, eqb-true, ne_eqb}
use Rattle.std.proofs.lemmas.List.{drop-drop, drop_more, drop_all, take_rest, length-drop, get_or-drop}
use Rattle.std.proofs.lemmas.List.Sums.{prefix_len_stops}
use Rattle.xc_base.specs.Text.{tokens_from, is_blank, joins, joins_next, with_byte}
use Rattle.xc_base.specs.Words.{is_word_byte}
use Rattle.xc_base.specs.Cutting.{token_size}

-- what two bytes have that join: they are of one kind, and the second is none of the low bytes
abbrev pub AreAlike : ℕ → ℕ → Type 0
AreAlike b c = (is_word_byte c ≡ is_word_byte b) × (45 < c)

pub word_byte_above : (c : ℕ) → is_word_byte c ≡ true → 45 < c
word_byte_above c h = grind (arith, common_steps)

words_alike : (b c : ℕ) → (is_word_byte b && is_word_byte c) ≡ true → AreAlike b c
words_alike b c h = let p = and_parts _ _ h in (p.1 ∙ sym p.0, word_byte_above c p.1)

symbols_alike : (b c m n : ℕ) → is_word_byte m ≡ false → is_word_byte n ≡ false → 45 < n → (eqb b m && eqb c n) ≡ true → AreAlike b c
symbols_alike b c m n wm wn above h =
    let p = and_parts _ _ h in
    let e : b ≡ m = eqb-true b m p.0 in
    let f : c ≡ n = eqb-true c n p.1 in
    (ap is_word_byte f ∙ (wn ∙ (sym wm ∙ ap is_word_byte (sym e))), omega arith)

pub joined_alike : (b c : ℕ) → joins b c ≡ true → AreAlike b c
joined_alike b c h =
    elim (or_cases _ _ h) [
      | inl h ↦
          elim (or_cases _ _ h) [
            | inl h ↦
                elim (or_cases _ _ h) [ inl h ↦ words_alike b c h | inr h ↦ symbols_alike b c 58 61 refl refl (omega arith) h ]
            | inr h ↦ symbols_alike b c 45 62 refl refl (omega arith) h
          ]
      | inr h ↦ symbols_alike b c 33 61 refl refl (omega arith) h
    ]

pub above_not_blank : (c : ℕ) → 45 < c → is_blank c ≡ false
above_not_blank c h = grind (arith, common_steps)

pub above_not_comment : (c : ℕ) → 45 < c → eqb c 35 ≡ false
above_not_comment c h = grind (arith, common_steps)

blank_not_comment : (b : ℕ) → is_blank b ≡ true → eqb b 35 ≡ false
blank_not_comment b h = grind (arith, common_steps)

-- the size of a token by its first byte
pub token_size_ends : (b : ℕ) (xs : List ℕ) → joins_next b xs ≡ false → token_size (b ∷ xs) ≡ 1
unfolding token_size
token_size_ends b xs j = simp j

pub token_size_more : (b : ℕ) (xs : List ℕ) → joins_next b xs ≡ true → token_size (b ∷ xs) ≡ token_size xs + 1
unfolding token_size
token_size_more b xs j = simp j

-- the tokens by the first byte
tokens_from_comment : (place b : ℕ) (xs : List ℕ) → eqb b 35 ≡ true → tokens_from place (b ∷ xs) ≡ []
unfolding tokens_from
tokens_from_comment place b xs c = simp c

pub tokens_from_blank : (place b : ℕ) (xs : List ℕ) → is_blank b ≡ true → tokens_from place (b ∷ xs) ≡ tokens_from (place + 1) xs
unfolding tokens_from
tokens_from_blank place b xs h = simp (blank_not_comment b h, h)

tokens_from_byte : (place b : ℕ) (xs : List ℕ) → eqb b 35 ≡ false → is_blank b ≡ false → tokens_from place (b ∷ xs) ≡ with_byte place b (joins_next b xs) (tokens_from (place + 1) xs)
unfolding tokens_from
tokens_from_byte place b xs c h = simp (c, h)

first_token_ends : (place b n : ℕ) (xs : List ℕ) → eqb b 35 ≡ false → is_blank b ≡ false → joins_next b xs ≡ false → n ≡ 1 → tokens_from place (b ∷ xs) ≡ record { start = place; end = place + n; word = is_word_byte b } ∷ tokens_from (place + n) (drop n (b ∷ xs))
first_token_ends place b n xs c h j e =
    tokens_from_byte place b xs c h ∙ (ap (λ k. with_byte place b k (tokens_from (place + 1) xs)) j ∙ rw e refl)

first_token_more : (place b m n : ℕ) (w : Bool) (xs : List ℕ) → eqb b 35 ≡ false → is_blank b ≡ false → joins_next b xs ≡ true → tokens_from (place + 1) xs ≡ record { start = place + 1; end = place + 1 + m; word = w } ∷ tokens_from (place + 1 + m) (drop m xs) → w ≡ is_word_byte b → n ≡ m + 1 → tokens_from place (b ∷ xs) ≡ record { start = place; end = place + n; word = is_word_byte b } ∷ tokens_from (place + n) (drop n (b ∷ xs))
first_token_more place b m n w xs c h j t v e =
    let f : place + n ≡ place + 1 + m = omega arith in
    let g : n ≡ suc m = omega arith in
    tokens_from_byte place b xs c h ∙ (ap (λ k. with_byte place b k (tokens_from (place + 1) xs)) j ∙ (ap (with_byte place b true) t ∙ rw (f, g, v) refl))

pub first_token : (place b : ℕ) (xs : List ℕ) → eqb b 35 ≡ false → is_blank b ≡ false → tokens_from place (b ∷ xs) ≡ record { start = place; end = place + token_size (b ∷ xs); word = is_word_byte b } ∷ tokens_from (place + token_size (b ∷ xs)) (drop (token_size (b ∷ xs)) (b ∷ xs))
first_token place b [] c h = first_token_ends place b _ [] c h refl (token_size_ends b [] refl)
first_token place b (d ∷ xs) c h =
    elim (cases_Bool (joins b d)) [
      | inl j ↦
          let a = joined_alike b d j in
          first_token_more place b _ _ _ (d ∷ xs) c h j (first_token (place + 1) d xs (above_not_comment d a.1) (above_not_blank d a.1)) a.0 (token_size_more b (d ∷ xs) j)
      | inr j ↦ first_token_ends place b _ (d ∷ xs) c h j (token_size_ends b (d ∷ xs) j)
    ]

-- the tokens behind the first blanks
tokens_behind : (place n : ℕ) (xs : List ℕ) → n ≡ prefix_len is_blank xs → tokens_from place xs ≡ tokens_from (place + n) (drop n xs)
unfolding tokens_from
tokens_behind place n [] e = rw e refl
tokens_behind place n (b ∷ xs) e =
    elim (cases_Bool (is_blank b)) [
      | inl h ↦
          let m = prefix_len is_blank xs in
          let f : n ≡ suc m = e ∙ simp h (omega arith) in
          let g : place + n ≡ place + 1 + m = omega arith in
          tokens_from_blank place b xs h ∙ (tokens_behind (place + 1) m xs refl ∙ rw (g, f) refl)
      | inr h ↦
          let f : n ≡ 0 = e ∙ simp h in
          let g : place + n ≡ place = omega arith in
          rw (g, f) refl
    ]

-- how many blanks stand from a place of a text on
abbrev pub blanks_at : List ℕ → ℕ → ℕ
blanks_at text from = prefix_len is_blank (take (length text - from) (drop from text))

blanks_at_drop : (text : List ℕ) (from : ℕ) → blanks_at text from ≡ prefix_len is_blank (drop from text)
blanks_at_drop text from = ap (prefix_len is_blank) (take_rest text from)

-- the tokens from a place on are those behind the blanks there, where none stands
pub tokens_behind_blanks : (text : List ℕ) (from : ℕ) → tokens_from from (drop from text) ≡ tokens_from (from + blanks_at text from) (drop (from + blanks_at text from) text)
tokens_behind_blanks text from =
    let n = blanks_at text from in
    tokens_behind from n (drop from text) (blanks_at_drop text from) ∙ ap (tokens_from (from + n)) (drop-drop n from text)

pub no_blank_behind : (text : List ℕ) (from : ℕ) → from + blanks_at text from < length text → is_blank (get_or text (from + blanks_at text from) 0) ≡ false
no_blank_behind text from h =
    let e = blanks_at_drop text from in
    let l : prefix_len is_blank (drop from text) < length (drop from text) = omega (arith, length-drop from text, e) in
    ap is_blank (sym (get_or-drop from text (blanks_at text from) 0) ∙ ap (λ k. get_or (drop from text) k 0) e) ∙ prefix_len_stops is_blank (drop from text) 0 l

-- the tokens from a place on where a text ends, a comment begins or a token begins
pub no_tokens_at_end : (text : List ℕ) (at : ℕ) → length text ≤ at → tokens_from at (drop at text) ≡ []
unfolding tokens_from
no_tokens_at_end text at h = rw (drop_all at text h) refl

pub no_tokens_at_comment : (text : List ℕ) (at : ℕ) → at < length text → get_or text at 0 ≡ 35 → tokens_from at (drop at text) ≡ []
no_tokens_at_comment text at h c =
    ap (tokens_from at) (drop_more text at 0 h) ∙ tokens_from_comment at _ _ (ap (λ b. eqb b 35) c)

pub token_at : (text : List ℕ) (at : ℕ) → at < length text → (get_or text at 0 ≡ 35 → ⊥) → is_blank (get_or text at 0) ≡ false → tokens_from at (drop at text) ≡ record { start = at; end = at + token_size (drop at text); word = is_word_byte (get_or text at 0) } ∷ tokens_from (at + token_size (drop at text)) (drop (at + token_size (drop at text)) text)
token_at text at h c k =
    let b = get_or text at 0 in
    let xs : List ℕ = drop (at + 1) text in
    let d : drop at text ≡ b ∷ xs = drop_more text at 0 h in
    ap (tokens_from at) d ∙ (first_token at b xs (ne_eqb b 35 c) k ∙ rw (← d, drop-drop _ at text) refl)

-- the size of a token of a text, one byte on and at its last byte
pub token_size_on : (text : List ℕ) (k n : ℕ) → n ≡ k + 1 → n < length text → joins (get_or text k 0) (get_or text n 0) ≡ true → token_size (drop k text) ≡ token_size (drop n text) + 1
token_size_on text k n e h j =
    let d : drop k text ≡ get_or text k 0 ∷ drop n text = drop_more text k 0 (omega arith) ∙ ap (λ i. get_or text k 0 ∷ drop i text) (sym e) in
    let f : joins_next (get_or text k 0) (drop n text) ≡ true = ap (joins_next (get_or text k 0)) (drop_more text n 0 h) ∙ j in
    ap token_size d ∙ token_size_more _ _ f

pub token_size_last : (text : List ℕ) (k n : ℕ) → n ≡ k + 1 → n ≡ length text → token_size (drop k text) ≡ 1
token_size_last text k n e h =
    let d : drop k text ≡ get_or text k 0 ∷ [] = drop_more text k 0 (omega arith) ∙ ap (λ l. get_or text k 0 ∷ l) (drop_all (k + 1) text (omega arith)) in
    ap token_size d ∙ token_size_ends _ _ refl

pub token_size_here : (text : List ℕ) (k n : ℕ) → n ≡ k + 1 → n < length text → joins (get_or text k 0) (get_or text n 0) ≡ false → token_size (drop k text) ≡ 1
token_size_here text k n e h j =
    let d : drop k text ≡ get_or text k 0 ∷ drop n text = drop_more text k 0 (omega arith) ∙ ap (λ i. get_or text k 0 ∷ drop i text) (sym e) in
    let f : joins_next (get_or text k 0) (drop n text) ≡ false = ap (joins_next (get_or text k 0)) (drop_more text n 0 h) ∙ j in
    ap token_size d ∙ token_size_ends _ _ f

-- what the next token, and the end of a token, are found by
pub ruleset token_steps = (tokens_behind_blanks, no_blank_behind, no_tokens_at_end, no_tokens_at_comment, token_at)

pub ruleset size_steps = (token_size_on, token_size_last, token_size_here)
