-- The tokens of a line are no longer than the line.
use Rattle.std.proofs.Common.{◌≡◌, ℕ, suc, ◌+◌, ◌-◌, ◌<◌, ◌≤◌, Bool, true, false, not, ◌==◌, if◌then◌else◌, ◌&&◌, List, [], ◌∷◌, ◌++◌, length, take, drop, map, length-append, append_assoc, refl, ap, sym, ◌∙◌, subst, inl, inr, arith}
use Rattle.std.specs.Prelude.{slice_range}
use Rattle.std.specs.List.{list_all}
use Rattle.std.proofs.lemmas.Bool.{cases_Bool, and_parts, and_from, or_parts, ne_eqb}
use Rattle.std.proofs.lemmas.List.{drop_at}
use Rattle.xc_base.specs.Canonical.{spaced}
use Rattle.xc_base.specs.Cutting.{token_size}
use Rattle.xc_base.specs.Text.{is_blank, joins, joins_next, with_byte, tokens_from, token_text}
use Rattle.xc_base.specs.Words.{is_word_byte, is_word}
use Rattle.xc_base.specs.declared.lines.Token.{Token}
use Rattle.xc_base.proofs.CutTokens.{joined_alike, above_not_blank, above_not_comment, first_token, token_size_ends, token_size_more}

-- the texts of the tokens of a line, wherever it stands
abbrev onto_token : ℕ → Bool → List (List ℕ) → List (List ℕ)
onto_token b false ts = (b ∷ []) ∷ ts
onto_token b true (t ∷ ts) = (b ∷ t) ∷ ts
onto_token b true [] = []

abbrev texts_of : List ℕ → List (List ℕ)
texts_of [] = []
texts_of (b ∷ bytes) = if b == 35 then [] else if is_blank b then texts_of bytes else onto_token b (joins_next b bytes) (texts_of bytes)

-- what is cut out of a source from a place on
cut_out : (source front rest : List ℕ) (place end : ℕ) → source ≡ front ++ rest → place ≡ length front → slice_range source place end ≡ take (end - place) rest
cut_out source front rest place end s e = ap (take (end - place)) (ap (drop place) s ∙ drop_at front rest place (sym e))

one_byte : (source front rest : List ℕ) (b place : ℕ) → source ≡ front ++ b ∷ rest → place ≡ length front → slice_range source place (place + 1) ≡ b ∷ []
one_byte source front rest b place s e =
    let n : (place + 1) - place ≡ 1 = omega arith in
    cut_out source front (b ∷ rest) place (place + 1) s e ∙ ap (λ (k : ℕ). take k (b ∷ rest)) n

byte_more : (source front rest : List ℕ) (b place end : ℕ) → source ≡ front ++ b ∷ rest → place ≡ length front → place < end → slice_range source place end ≡ b ∷ slice_range source (place + 1) end
byte_more source front rest b place end s e h =
    let n : end - place ≡ suc (end - (place + 1)) = omega arith in
    let behind : source ≡ (front ++ b ∷ []) ++ rest = s ∙ sym (append_assoc front (b ∷ []) rest) in
    let at : place + 1 ≡ length (front ++ b ∷ []) = omega (arith, length-append front (b ∷ [])) in
    cut_out source front (b ∷ rest) place end s e ∙ ap (λ (k : ℕ). take k (b ∷ rest)) n ∙ ap (λ (t : List ℕ). b ∷ t) (sym (cut_out source (front ++ b ∷ []) rest (place + 1) end behind at))

-- a token is one byte at least
some_size : (b : ℕ) (bytes : List ℕ) → 1 ≤ token_size (b ∷ bytes)
some_size b bytes =
    elim (cases_Bool (joins_next b bytes)) [ inl j ↦ omega (arith, token_size_more b bytes j) | inr j ↦ omega (arith, token_size_ends b bytes j) ]

-- where a byte joins what is behind it, a token begins there
Begins : ℕ → List Token → Type 0
Begins place [] = Unit {0}
Begins place (t ∷ ts) = (t.start ≡ place) × (place < t.end)

begins : (place b : ℕ) (bytes : List ℕ) → joins_next b bytes ≡ true → Begins place (tokens_from place bytes)
unfolding Begins
begins place b [] j = cc
begins place b (c ∷ bytes) j =
    let above = (joined_alike b c j).1 in
    subst (Begins place) (sym (first_token place c bytes (above_not_comment c above) (above_not_blank c above))) (refl, omega (arith, some_size c bytes))

-- the texts with one byte more in front of the line
module _ (source front rest : List ℕ) (b place : ℕ) (s : source ≡ front ++ b ∷ rest) (e : place ≡ length front) where
  joined_text : (ts : List Token) (j : Bool) → (j ≡ true → Begins (place + 1) ts) → map (token_text source) (with_byte place b j ts) ≡ onto_token b j (map (token_text source) ts)
  unfolding Begins
  joined_text ts false h = ap (λ (t : List ℕ). t ∷ map (token_text source) ts) (one_byte source front rest b place s e)
  joined_text [] true h = refl
  joined_text (t ∷ ts) true h =
      let there = h refl in
      ap (λ (x : List ℕ). x ∷ map (token_text source) ts)
      (byte_more source front rest b place t.end s e (omega (arith, there.1)) ∙ ap (λ (k : ℕ). b ∷ slice_range source k t.end) (sym there.0))

  byte_text : (ts : List Token) (xs : List (List ℕ)) (c k j : Bool) → map (token_text source) ts ≡ xs → (j ≡ true → Begins (place + 1) ts)
      → map (token_text source) (if c then [] else if k then ts else with_byte place b j ts) ≡ (if c then [] else if k then xs else onto_token b j xs)
  byte_text ts xs true k j h f = refl
  byte_text ts xs false true j h f = h
  byte_text ts xs false false j h f = joined_text ts j f ∙ ap (onto_token b j) h

texts_are : (source front line back : List ℕ) (place : ℕ) → source ≡ front ++ (line ++ back) → place ≡ length front → map (token_text source) (tokens_from place line) ≡ texts_of line
unfolding tokens_from
texts_are source front [] back place s e = refl
texts_are source front (b ∷ bytes) back place s e =
    let behind : source ≡ (front ++ b ∷ []) ++ (bytes ++ back) = s ∙ sym (append_assoc front (b ∷ []) (bytes ++ back)) in
    let at : place + 1 ≡ length (front ++ b ∷ []) = omega (arith, length-append front (b ∷ [])) in
    byte_text source front (bytes ++ back) b place s e (tokens_from (place + 1) bytes) (texts_of bytes) (b == 35) (is_blank b) (joins_next b bytes)
    (texts_are source (front ++ b ∷ []) bytes back (place + 1) behind at) (begins (place + 1) b bytes)

-- how long the text of tokens is
abbrev size : List (List ℕ) → ℕ
size ts = length (spaced ts)

abbrev gap : Bool → List ℕ
gap b = if b then 32 ∷ [] else []

gap_size : (b : Bool) → length (gap b) ≤ 1
gap_size true = omega arith
gap_size false = omega arith

size_one : (t : List ℕ) → size (t ∷ []) ≡ length t
unfolding spaced
size_one t = refl

size_more : (t u : List ℕ) (ts : List (List ℕ)) → size (t ∷ u ∷ ts) ≡ length t + length (gap (is_word t && is_word u)) + size (u ∷ ts)
unfolding spaced
size_more t u ts = omega (arith, length-append (t ++ gap (is_word t && is_word u)) (spaced (u ∷ ts)), length-append t (gap (is_word t && is_word u)))

-- a token before others costs its bytes and a blank
token_before : (t : List ℕ) (ts : List (List ℕ)) → size (t ∷ ts) ≤ length t + 1 + size ts
unfolding spaced
token_before t [] = omega arith
token_before t (u ∷ ts) = omega (arith, size_more t u ts, gap_size (is_word t && is_word u))

-- and no blank where it and the next are not both words
abbrev starts_word : List (List ℕ) → Bool
starts_word [] = false
starts_word (t ∷ ts) = is_word t

word_apart : (t : List ℕ) (ts : List (List ℕ)) → (is_word t && starts_word ts) ≡ false → size (t ∷ ts) ≤ length t + size ts
unfolding spaced
word_apart t [] h = omega arith
word_apart t (u ∷ ts) h = omega (arith, size_more t u ts, ap (λ (b : Bool). length (gap b)) h)

-- a token with one byte more in front
some_word : (b : ℕ) (t : List ℕ) → 0 < length t → is_word (b ∷ t) ≡ true → is_word t ≡ true
some_word b t some h =
    let bytes = and_parts (is_word_byte b) (list_all is_word_byte t) (and_parts (not (length (b ∷ t) == 0)) (list_all is_word_byte (b ∷ t)) h).1 in
    and_from (not (length t == 0)) (list_all is_word_byte t) (ap not (ne_eqb (length t) 0 (λ e. omega arith))) bytes.1

gap_less : (p q r : Bool) → (p ≡ true → q ≡ true) → length (gap (p && r)) ≤ length (gap (q && r))
gap_less false q r f = omega arith
gap_less true true r f = omega arith
gap_less true false r f = let never = f refl in cc

longer_word : (b : ℕ) (t u : List ℕ) → 0 < length t → length (gap (is_word (b ∷ t) && is_word u)) ≤ length (gap (is_word t && is_word u))
longer_word b t u some = gap_less (is_word (b ∷ t)) (is_word t) (is_word u) (some_word b t some)

byte_before : (b : ℕ) (t : List ℕ) (ts : List (List ℕ)) → 0 < length t → size ((b ∷ t) ∷ ts) ≤ 1 + size (t ∷ ts)
byte_before b t [] some = omega (arith, size_one (b ∷ t), size_one t)
byte_before b t (u ∷ ts) some = omega (arith, size_more (b ∷ t) u ts, size_more t u ts, longer_word b t u some)

-- no token is empty
abbrev AreSome : List (List ℕ) → Type 0
AreSome [] = Unit {0}
AreSome (t ∷ ts) = (0 < length t) × AreSome ts

onto_some : (b : ℕ) (j : Bool) (ts : List (List ℕ)) → AreSome ts → AreSome (onto_token b j ts)
onto_some b false ts h = (omega arith, h)
onto_some b true [] h = tt
onto_some b true (t ∷ ts) h = (omega arith, h.1)

chosen_some : (b : ℕ) (c k j : Bool) (ts : List (List ℕ)) → AreSome ts → AreSome (if c then [] else if k then ts else onto_token b j ts)
chosen_some b true k j ts h = tt
chosen_some b false true j ts h = h
chosen_some b false false j ts h = onto_some b j ts h

texts_some : (line : List ℕ) → AreSome (texts_of line)
texts_some [] = tt
texts_some (b ∷ bytes) = chosen_some b (b == 35) (is_blank b) (joins_next b bytes) (texts_of bytes) (texts_some bytes)

-- a byte that joins none behind it
unjoined : (b : ℕ) (c : ℕ) → joins b c ≡ false → (is_word_byte b && is_word_byte c) ≡ false
unjoined b c h = (or_parts _ _ (or_parts _ _ (or_parts _ _ h).0).0).0

-- a word begins with a word byte
word_first : (b : ℕ) (t : List ℕ) → is_word (b ∷ t) ≡ true → is_word_byte b ≡ true
word_first b t h = (and_parts (is_word_byte b) (list_all is_word_byte t) (and_parts (not (length (b ∷ t) == 0)) (list_all is_word_byte (b ∷ t)) h).1).0

starts_by : (b : ℕ) (ts : List (List ℕ)) (j : Bool) → starts_word (onto_token b j ts) ≡ true → is_word_byte b ≡ true
starts_by b ts false h = word_first b [] h
starts_by b [] true h = cc
starts_by b (t ∷ ts) true h = word_first b t h

-- one byte, that joins none behind it, before the tokens of the rest of the line
module _ (b : ℕ) where
  before_token : (c : ℕ) (ts : List (List ℕ)) (j : Bool) → joins b c ≡ false → size ((b ∷ []) ∷ onto_token c j ts) ≤ 1 + size (onto_token c j ts)
  before_token c ts j h = word_apart (b ∷ []) (onto_token c j ts) (never (is_word (b ∷ [])) (starts_word (onto_token c j ts)) refl refl)
    where
      never : (p q : Bool) → is_word (b ∷ []) ≡ p → starts_word (onto_token c j ts) ≡ q → (p && q) ≡ false
      never false q e f = refl
      never true false e f = refl
      never true true e f =
          let both : (is_word_byte b && is_word_byte c) ≡ true = and_from (is_word_byte b) (is_word_byte c) (word_first b [] e) (starts_by c ts j f) in
          let none = unjoined b c h in
          cc

  before_line : (c : ℕ) (bytes : List ℕ) (p k j : Bool) (ts : List (List ℕ)) → joins b c ≡ false → size ts ≤ length bytes → size (if p then [] else if k then ts else onto_token c j ts) ≤ suc (length bytes)
      → size ((b ∷ []) ∷ (if p then [] else if k then ts else onto_token c j ts)) ≤ suc (suc (length bytes))
  before_line c bytes true k j ts h small whole = omega (arith, size_one (b ∷ []))
  before_line c bytes false true j ts h small whole = omega (arith, token_before (b ∷ []) ts)
  before_line c bytes false false j ts h small whole = omega (arith, before_token c ts j h)

-- the tokens of a line, and those of the line without its first byte
abbrev rest_of : List ℕ → List ℕ
rest_of [] = []
rest_of (b ∷ bytes) = bytes

abbrev AreWithin : List ℕ → Type 0
AreWithin line = size (texts_of line) ≤ length line

alone_within : (b : ℕ) (bytes : List ℕ) → joins_next b bytes ≡ false → AreWithin bytes → AreWithin (rest_of bytes) → size ((b ∷ []) ∷ texts_of bytes) ≤ suc (length bytes)
alone_within b [] h all rest = omega (arith, size_one (b ∷ []))
alone_within b (c ∷ bytes) h all rest = before_line b c bytes (c == 35) (is_blank c) (joins_next c bytes) (texts_of bytes) h rest all

joined_within : (b : ℕ) (n : ℕ) (ts : List (List ℕ)) → AreSome ts → size ts ≤ n → size (onto_token b true ts) ≤ suc n
unfolding spaced
joined_within b n [] some h = omega arith
joined_within b n (t ∷ ts) some h = omega (arith, byte_before b t ts some.0)

none_within : (n : ℕ) → size [] ≤ n
unfolding spaced
none_within n = omega arith

byte_within : (b : ℕ) (bytes : List ℕ) (c k j : Bool) → joins_next b bytes ≡ j → AreWithin bytes → AreWithin (rest_of bytes) → size (if c then [] else if k then texts_of bytes else onto_token b j (texts_of bytes)) ≤ suc (length bytes)
byte_within b bytes true k j e all rest = none_within (suc (length bytes))
byte_within b bytes false true j e all rest = omega arith
byte_within b bytes false false false e all rest = alone_within b bytes e all rest
byte_within b bytes false false true e all rest = joined_within b (length bytes) (texts_of bytes) (texts_some bytes) all

both_within : (line : List ℕ) → AreWithin line × AreWithin (rest_of line)
both_within [] = (none_within 0, none_within 0)
both_within (b ∷ bytes) = let behind = both_within bytes in (byte_within b bytes (b == 35) (is_blank b) (joins_next b bytes) refl behind.0 behind.1, behind.0)

-- so the tokens of a line in a source are no longer than the line
pub tokens_within : (source front line back : List ℕ) (place : ℕ) → source ≡ front ++ (line ++ back) → place ≡ length front → size (map (token_text source) (tokens_from place line)) ≤ length line
tokens_within source front line back place s e =
    let same = ap size (texts_are source front line back place s e) in
    omega (arith, (both_within line).0, same)
