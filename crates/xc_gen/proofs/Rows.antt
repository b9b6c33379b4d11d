-- Pieces of text one after another.
use Rattle.std.proofs.Common.{◌≡◌, ℕ, zero, suc, ◌+◌, List, [], ◌∷◌, ◌++◌, add-one, append_assoc, append-nil, Result, Ok, Err, OnOk, refl, sym, ◌∙◌, ap, arith}
use Rattle.std.specs.List.{range_with_len, flat_map}
use Rattle.std.proofs.lemmas.Grind.{flat_map-append}

-- the numbers up to one are those before it and it
range_more : (k n : ℕ) → range_with_len k (suc n) ≡ range_with_len k n ++ (k + n) ∷ []
range_more k zero = let e : k + 0 ≡ k = omega arith in rw e refl
range_more k (suc n) = let e : k + 1 + n ≡ k + suc n = omega arith in ap (λ (more : List ℕ). k ∷ more) (range_more (k + 1) n ∙ ap (λ (j : ℕ). range_with_len (k + 1) n ++ j ∷ []) e)

-- the lines of the numbers up to one
lines_more : (f : ℕ → List ℕ) (s : ℕ) → flat_map f (range_with_len 0 (suc s)) ≡ flat_map f (range_with_len 0 s) ++ f s
lines_more f s =
    let here : 0 + s ≡ s = omega arith in
    ap (flat_map f) (range_more 0 s) ∙ flat_map-append f (range_with_len 0 s) ((0 + s) ∷ []) ∙ ap (λ (k : ℕ). flat_map f (range_with_len 0 s) ++ flat_map f (k ∷ [])) here ∙ ap (λ (last : List ℕ). flat_map f (range_with_len 0 s) ++ last) (append-nil (f s))

-- the lines of the numbers before one, with its own
pub line_pushed : (f : ℕ → List ℕ) (text new base : List ℕ) (s : ℕ) → text ≡ base ++ flat_map f (range_with_len 0 s) → new ≡ text ++ f s → new ≡ base ++ flat_map f (range_with_len 0 (s + 1))
line_pushed f text new base s known e =
    rw add-one
    (e ∙ ap (λ (t : List ℕ). t ++ f s) known ∙ append_assoc base (flat_map f (range_with_len 0 s)) (f s) ∙ ap (λ (more : List ℕ). base ++ more) (sym (lines_more f s)))

-- three pieces, the last of which is appended last
pub three_pushed : {X E : Type 0} (r : Result X E) (base a b c first second third : List ℕ) → first ≡ base ++ a → second ≡ first ++ b → OnOk r (third ≡ second ++ c) → OnOk r (third ≡ base ++ (a ++ (b ++ c)))
three_pushed (Ok x) base a b c first second third e f g =
    g ∙ ap (λ (t : List ℕ). t ++ c) (f ∙ ap (λ (t : List ℕ). t ++ b) e) ∙ ap (λ (t : List ℕ). t ++ c) (append_assoc base a b) ∙ append_assoc base (a ++ b) c
    ∙ ap (λ (t : List ℕ). base ++ t) (append_assoc a b c)
three_pushed (Err x) base a b c first second third e f g = tt
