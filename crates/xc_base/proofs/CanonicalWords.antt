-- Lines of words alone, and how long the text of tokens is.
use Rattle.std.proofs.Common.{◌≡◌, ℕ, ◌+◌, ◌*◌, ◌<◌, ◌≤◌, Bool, true, false, not, ◌&&◌, if◌then◌else◌, List, [], ◌∷◌, ◌++◌, length, length-append, refl, arith}
use Rattle.std.specs.List.{list_all}
use Rattle.std.proofs.lemmas.Bool.{and_parts, and_from, or_left, lt-ltb, le-leb}
use Rattle.xc_base.specs.Words.{is_word}
use Rattle.xc_base.specs.Canonical.{spaced, is_symbol, is_token, run_together, are_apart, is_line, is_short}

words_are_tokens : (tokens : List (List ℕ)) → list_all is_word tokens ≡ true → list_all is_token tokens ≡ true
words_are_tokens [] h = refl
words_are_tokens (token ∷ more) h =
    let p = and_parts (is_word token) (list_all is_word more) h in
    and_from _ _ (or_left (is_word token) (is_symbol token) p.0) (words_are_tokens more p.1)

words_apart : (tokens : List (List ℕ)) → list_all is_word tokens ≡ true → are_apart tokens ≡ true
words_apart [] h = refl
words_apart (token ∷ []) h = refl
words_apart (token ∷ next ∷ more) h =
    let p = and_parts (is_word token) (list_all is_word (next ∷ more)) h in
    let q = and_parts (is_word next) (list_all is_word more) p.1 in
    and_from _ _ (or_left (is_word token && is_word next) (not (run_together token next)) (and_from _ _ p.0 q.0)) (words_apart (next ∷ more) p.1)

-- words, one at least, are a line
pub words_line : (tokens : List (List ℕ)) → 0 < length tokens → list_all is_word tokens ≡ true → is_line tokens ≡ true
words_line tokens some h = and_from _ _ (and_from _ _ (lt-ltb 0 (length tokens) some) (words_are_tokens tokens h)) (words_apart tokens h)

-- each token has so many bytes at most
abbrev pub AreUpTo : ℕ → List (List ℕ) → Type 0
AreUpTo most [] = Unit {0}
AreUpTo most (token ∷ more) = (length token ≤ most) × AreUpTo most more

gap_size : (b : Bool) → length {A = ℕ} (if b then 32 ∷ [] else []) ≤ 1
gap_size true = omega arith
gap_size false = omega arith

-- the text of tokens has a blank more than the tokens, for each of them, at most
pub spaced_size : (most : ℕ) (tokens : List (List ℕ)) → AreUpTo most tokens → length (spaced tokens) ≤ (most + 1) * length tokens
unfolding spaced
spaced_size most [] h = omega arith
spaced_size most (token ∷ []) h = omega (arith, h.0)
spaced_size most (token ∷ next ∷ more) h =
    let gap : List ℕ = if is_word token && is_word next then 32 ∷ [] else [] in
    let rest = spaced_size most (next ∷ more) h.1 in
    let first = length-append (token ++ gap) (spaced (next ∷ more)) in
    let second = length-append token gap in
    let small = gap_size (is_word token && is_word next) in
    omega (arith, h.0, rest, first, second, small)

-- tokens of so many bytes are a short line
pub short_line : (most : ℕ) (tokens : List (List ℕ)) → AreUpTo most tokens → (most + 1) * length tokens ≤ 4096 → is_short tokens ≡ true
short_line most tokens h k = le-leb (length (spaced tokens)) 4096 (omega (arith, spaced_size most tokens h, k))
