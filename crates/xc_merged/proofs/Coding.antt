-- The code of places, as a loop comes to it.
use Rattle.std.proofs.Common.{◌≡◌, ℕ, zero, suc, ◌+◌, ◌*◌, ◌<◌, ◌≤◌, List, [], ◌∷◌, length, get_or, drop, sym, ◌∙◌, ap, arith}
use Rattle.std.proofs.lemmas.List.{drop_more, drop_all}
use Rattle.xc_theory.specs.Codes.{total, code_of}

turn : (code s d t c : ℕ) → code * (s * t) + (d * t + c) ≡ (code * s + d) * t + c
turn code s d t c = grind arith

pub code_turn : (sizes row : List ℕ) (x code s d all : ℕ) → x < length sizes → x < length row → s ≡ get_or sizes x 0 → d ≡ get_or row x 0
    → code * total (drop x sizes) + code_of (drop x sizes) (drop x row) ≡ all → (code * s + d) * total (drop (x + 1) sizes) + code_of (drop (x + 1) sizes) (drop (x + 1) row) ≡ all
code_turn sizes row x code s d all low here e f known =
    let t = total (drop (x + 1) sizes) in
    let c = code_of (drop (x + 1) sizes) (drop (x + 1) row) in
    let sizes_is : s ∷ drop (x + 1) sizes ≡ drop x sizes = ap (λ (n : ℕ). n ∷ drop (x + 1) sizes) e ∙ sym (drop_more sizes x 0 low) in
    let row_is : d ∷ drop (x + 1) row ≡ drop x row = ap (λ (n : ℕ). n ∷ drop (x + 1) row) f ∙ sym (drop_more row x 0 here) in
    sym (turn code s d t c)
    ∙ ap (λ (some : List ℕ). code * total some + code_of some (d ∷ drop (x + 1) row)) sizes_is
    ∙ ap (λ (some : List ℕ). code * total (drop x sizes) + code_of (drop x sizes) some) row_is
    ∙ known

at_least : (n t : ℕ) → 0 < t → n ≤ n * t
at_least n zero h = absurd (omega arith)
at_least n (suc t) h = more n t where
  more : (n t : ℕ) → n ≤ n * suc t
  more n t = grind arith

pub code_small : (n t c all limit : ℕ) → n * t + c ≡ all → 0 < t → all < limit → n < limit
code_small n t c all limit e some h = omega (arith, at_least n t some)

pub code_begins : (sizes row : List ℕ) → 0 * total (drop 0 sizes) + code_of (drop 0 sizes) (drop 0 row) ≡ code_of sizes row
code_begins sizes row = omega arith

pub code_ends : (sizes row : List ℕ) (x code all : ℕ) → length sizes ≤ x → code * total (drop x sizes) + code_of (drop x sizes) (drop x row) ≡ all → code ≡ all
code_ends sizes row x code all past known =
    let done : drop x sizes ≡ [] = drop_all x sizes past in
    let now : code * 1 + 0 ≡ all = ap (λ (some : List ℕ). code * total some + code_of some (drop x row)) (sym done) ∙ known in
    omega arith
