-- The places of a state as text, and pieces of text one after another.
use Rattle.std.proofs.Common.{◌≡◌, ℕ, zero, suc, ◌+◌, ◌<◌, List, [], ◌∷◌, ◌++◌, length, get_or, drop, add-one, append_assoc, append-nil, refl, sym, ◌∙◌, ap, arith}
use Rattle.std.specs.List.{range_with_len, flat_map}
use Rattle.xc_theory.specs.Codes.{AreDigits}
use Rattle.xc_forms.specs.Variables.{sizes_of}
use Rattle.xc_forms.specs.declared.domain.Domain.{Domain}
use Rattle.xc_report.specs.Reports.{places_text}
use Rattle.xc_report.specs.Pieces.{place_text}
use Rattle.std.proofs.Math.Seq.{drop-length}
use Rattle.std.proofs.lemmas.Grind.{flat_map-append}

-- each variable has a place, and it is that of one of its values
pub place_room : (vars : List Domain) (row : List ℕ) → AreDigits (sizes_of vars) row → length row ≡ length vars
place_room [] [] h = refl
place_room [] (x ∷ row) h = absurd h
place_room (d ∷ vars) [] h = absurd h
place_room (d ∷ vars) (x ∷ row) h = ap suc (place_room vars row h.1)

-- and the place is that of one of its values
pub place_below : (vars : List Domain) (row : List ℕ) (i : ℕ) (d : Domain) → AreDigits (sizes_of vars) row → i < length vars → d ≡ get_or vars i d → get_or row i 0 < length d.values
place_below [] row i d h low is = absurd (omega arith)
place_below (e ∷ vars) [] i d h low is = absurd h
place_below (e ∷ vars) (x ∷ row) zero d h low is = rw is h.0
place_below (e ∷ vars) (x ∷ row) (suc i) d h low is = place_below vars row i d h.1 (omega arith) is

-- the text of the variables from one on is that of it and those behind it
places_next : (vars : List Domain) (row : List ℕ) (i x : ℕ) (d : Domain) → i < length vars → i < length row → d ≡ get_or vars i d → x ≡ get_or row i 0 → places_text (drop i vars) (drop i row) ≡ place_text d x ++ places_text (drop (suc i) vars) (drop (suc i) row)
places_next [] row i x d low in_row is at = absurd (omega arith)
places_next (e ∷ vars) [] i x d low in_row is at = absurd (omega arith)
places_next (e ∷ vars) (y ∷ row) zero x d low in_row is at = rw (is, at) refl
places_next (e ∷ vars) (y ∷ row) (suc i) x d low in_row is at = places_next vars row i x d (omega arith) (omega arith) is at

-- a text and what follows it
regrouped : (a b c d base : List ℕ) → d ≡ b ++ c → a ++ d ≡ base → (a ++ b) ++ c ≡ base
regrouped a b c d base e known = rw append_assoc (ap (λ (more : List ℕ). a ++ more) (sym e) ∙ known)

-- the text with one variable more, and what is left to say
pub place_pushed : (vars : List Domain) (row text new base : List ℕ) (n i x : ℕ) (d : Domain) → AreDigits (sizes_of vars) row → n ≡ length vars → i < n → d ≡ get_or vars i d → x ≡ get_or row i 0
    → text ++ places_text (drop i vars) (drop i row) ≡ base → new ≡ text ++ place_text d x → new ++ places_text (drop (i + 1) vars) (drop (i + 1) row) ≡ base
place_pushed vars row text new base n i x d are count low is at known e =
    let there : i < length vars = omega arith in
    rw (e, add-one)
    (regrouped text (place_text d x) (places_text (drop (suc i) vars) (drop (suc i) row)) (places_text (drop i vars) (drop i row)) base
    (places_next vars row i x d there (omega (arith, place_room vars row are)) is at) known)

-- behind the last variable nothing is left to say
pub places_none : (vars : List Domain) (row text : List ℕ) (n : ℕ) → n ≡ length vars → text ++ places_text (drop n vars) (drop n row) ≡ text
places_none vars row text n e = rw (e, drop-length vars) (append-nil text)

-- the numbers up to one are those before it and it
range_more : (k n : ℕ) → range_with_len k (suc n) ≡ range_with_len k n ++ (k + n) ∷ []
range_more k zero = let e : k + 0 ≡ k = omega arith in rw e refl
range_more k (suc n) = let e : k + 1 + n ≡ k + suc n = omega arith in ap (λ (more : List ℕ). k ∷ more) (range_more (k + 1) n ∙ ap (λ (j : ℕ). range_with_len (k + 1) n ++ j ∷ []) e)

-- the lines of the states up to one
lines_more : (f : ℕ → List ℕ) (s : ℕ) → flat_map f (range_with_len 0 (suc s)) ≡ flat_map f (range_with_len 0 s) ++ f s
lines_more f s =
    let here : 0 + s ≡ s = omega arith in
    ap (flat_map f) (range_more 0 s) ∙ flat_map-append f (range_with_len 0 s) ((0 + s) ∷ []) ∙ ap (λ (k : ℕ). flat_map f (range_with_len 0 s) ++ flat_map f (k ∷ [])) here ∙ ap (λ (last : List ℕ). flat_map f (range_with_len 0 s) ++ last) (append-nil (f s))

-- the lines of the states before one, with its own
pub line_pushed : (f : ℕ → List ℕ) (text new base : List ℕ) (s : ℕ) → text ≡ base ++ flat_map f (range_with_len 0 s) → new ≡ text ++ f s → new ≡ base ++ flat_map f (range_with_len 0 (s + 1))
line_pushed f text new base s known e =
    rw add-one
    (e ∙ ap (λ (t : List ℕ). t ++ f s) known ∙ append_assoc base (flat_map f (range_with_len 0 s)) (f s) ∙ ap (λ (more : List ℕ). base ++ more) (sym (lines_more f s)))
