-- The digits of a state, as a loop divides them off from the last one on.
use Rattle.std.proofs.Common.{◌≡◌, ℕ, suc, ◌+◌, ◌-◌, ◌*◌, ◌/◌, ◌%◌, ◌<◌, ◌≤◌, List, [], ◌∷◌, ◌++◌, length, take, drop, slice_index, add-one, append_assoc, append-nil, refl, sym, ◌∙◌, ap, subst, arith}
use Rattle.std.proofs.Math.ListN.{set}
use Rattle.std.proofs.Math.Seq.{take-suc}
use Rattle.std.proofs.lemmas.List.{drop-set, take_all}
use Rattle.std.proofs.lemmas.Nat.{div-add-mod', div_below, mod_below}
use Rattle.xc_theory.proofs.Codes.{digits_are_in_range, digits_of_codes, codes_of_digits}
use Rattle.xc_theory.specs.Codes.{total, digits, code_of, AreDigits}

-- one more size multiplies
total_snoc : (sizes : List ℕ) (s : ℕ) → total (sizes ++ s ∷ []) ≡ total sizes * s
total_snoc [] s = omega arith
total_snoc (size ∷ sizes) s = rw (total_snoc sizes s) (grind arith)

-- one more digit for one more size
digits_snoc : (sizes row : List ℕ) (s digit : ℕ) → AreDigits sizes row → digit < s → AreDigits (sizes ++ s ∷ []) (row ++ digit ∷ [])
digits_snoc [] [] s digit h low = (low, tt)
digits_snoc [] (x ∷ row) s digit h low = absurd h
digits_snoc (size ∷ sizes) [] s digit h low = absurd h
digits_snoc (size ∷ sizes) (x ∷ row) s digit h low = (h.0, digits_snoc sizes row s digit h.1 low)

code_snoc : (sizes row : List ℕ) (s digit : ℕ) → AreDigits sizes row → code_of (sizes ++ s ∷ []) (row ++ digit ∷ []) ≡ code_of sizes row * s + digit
code_snoc [] [] s digit h = omega arith
code_snoc [] (x ∷ row) s digit h = absurd h
code_snoc (size ∷ sizes) [] s digit h = absurd h
code_snoc (size ∷ sizes) (x ∷ row) s digit h = rw (code_snoc sizes row s digit h.1, total_snoc sizes s) (grind arith)

-- the last digit is what is left by its size, and the others are those of the quotient
last_digit : (sizes : List ℕ) (s code digit : ℕ) → code < total sizes → digit < s → digits (sizes ++ s ∷ []) (code * s + digit) ≡ digits sizes code ++ digit ∷ []
last_digit sizes s code digit h low =
    let row = digits sizes code in
    let are : AreDigits sizes row = digits_are_in_range sizes code h in
    let same : code_of (sizes ++ s ∷ []) (row ++ digit ∷ []) ≡ code * s + digit = code_snoc sizes row s digit are ∙ ap (λ (c : ℕ). c * s + digit) (codes_of_digits sizes code h) in
    sym (ap (digits (sizes ++ s ∷ [])) same) ∙ digits_of_codes (sizes ++ s ∷ []) (row ++ digit ∷ []) (digits_snoc sizes row s digit are low)

-- the places of a state are digits
pub are_digits : (sizes row : List ℕ) (code : ℕ) → code < total sizes → row ≡ digits sizes code → AreDigits sizes row
are_digits sizes row code h e = rw e (digits_are_in_range sizes code h)

-- what the rest of a state and the places behind come to
unfoldable pub comes_to : List ℕ → ℕ → ℕ → List ℕ → List ℕ
comes_to sizes place rest row = digits (take place sizes) rest ++ take (length sizes - place) (drop place row)

-- the sizes up to a place and its own
take_more : (sizes : List ℕ) (place s : ℕ) → s ≡ slice_index sizes place → place < length sizes → take (place + 1) sizes ≡ take place sizes ++ s ∷ []
take_more sizes place s e h = rw (add-one, take-suc sizes place 0 h, e) refl

-- the quotient is a state of the variables before
pub rest_below : (sizes : List ℕ) (place rest s : ℕ) → s ≡ slice_index sizes place → place < length sizes → 0 < s → rest < total (take (place + 1) sizes) → rest / s < total (take place sizes)
rest_below sizes place rest s e h positive low =
    let bound : rest < total (take place sizes) * s = subst (λ (n : ℕ). rest < n) (ap total (take_more sizes place s e h) ∙ total_snoc (take place sizes) s) low in
    div_below rest s (total (take place sizes)) positive bound

-- the digits up to a place are those of the quotient and what is left
digits_more : (sizes : List ℕ) (place rest s : ℕ) → s ≡ slice_index sizes place → place < length sizes → 0 < s → rest < total (take (place + 1) sizes) → digits (take (place + 1) sizes) rest ≡ digits (take place sizes) (rest / s) ++ rest % s ∷ []
digits_more sizes place rest s e h positive low =
    let last = last_digit (take place sizes) s (rest / s) (rest % s) (rest_below sizes place rest s e h positive low) (mod_below rest s positive) in
    ap (λ (some : List ℕ). digits some rest) (take_more sizes place s e h)
    ∙ ap (digits (take place sizes ++ s ∷ [])) (sym (div-add-mod' rest s))
    ∙ last

-- the places behind, with the one that is written
row_more : (row : List ℕ) (place n digit : ℕ) → place < n → n ≤ length row → take (n - place) (drop place (set row place digit)) ≡ digit ∷ take (n - (place + 1)) (drop (place + 1) row)
row_more row place n digit h room =
    let e : n - place ≡ suc (n - (place + 1)) = omega arith in
    rw (e, drop-set row place digit (omega arith)) refl

pub placed : (sizes row : List ℕ) (place rest s : ℕ) → s ≡ slice_index sizes place → place < length sizes → length sizes ≤ length row → 0 < s → rest < total (take (place + 1) sizes) → comes_to sizes place (rest / s) (set row place (rest % s)) ≡ comes_to sizes (place + 1) rest row
unfolding comes_to
placed sizes row place rest s e h room positive low =
    rw (digits_more sizes place rest s e h positive low, row_more row place (length sizes) (rest % s) h room, append_assoc) refl

pub none_placed : (sizes row : List ℕ) (state : ℕ) → comes_to sizes (length sizes) state row ≡ digits sizes state
unfolding comes_to
none_placed sizes row state =
    let e : length sizes - length sizes ≡ 0 = omega arith in
    rw (e, take_all (length sizes) sizes (omega arith), append-nil) refl

pub all_placed : (sizes row : List ℕ) (rest : ℕ) → comes_to sizes 0 rest row ≡ take (length sizes) row
unfolding comes_to
all_placed sizes row rest = let e : length sizes - 0 ≡ length sizes = omega arith in rw e refl
