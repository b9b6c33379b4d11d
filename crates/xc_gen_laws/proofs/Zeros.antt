-- A test that each variable has its first value, and the one state at which it holds.
use Rattle.std.proofs.Common.{◌≡◌, ℕ, zero, suc, ◌+◌, ◌*◌, ◌<◌, ◌≤◌, Bool, true, false, ◌&&◌, eqb, List, [], ◌∷◌, length, slice_index, refl, ap, sym, ◌∙◌, subst, inl, inr, arith}
use Rattle.std.specs.List.{list_all}
use Rattle.std.proofs.lemmas.Bool.{and_parts, false≢true, eqb-true, cases_eq}
use Rattle.xc_theory.specs.Codes.{total, code_of, AreDigits}
use Rattle.xc_expr.specs.Tests.{Test, Is, IsNot, Same, Differ, Not, And, Or, holds_at}
use Rattle.xc_expr.specs.Tests as tests

-- whether a test says that variable k has its first value
abbrev pub is_zero_at : ℕ → Test → Bool
is_zero_at k tests.True = false
is_zero_at k tests.False = false
is_zero_at k (Is x v) = eqb x k && eqb v 0
is_zero_at k (IsNot x v) = false
is_zero_at k (Same x y) = false
is_zero_at k (Differ x y) = false
is_zero_at k (Not g) = false
is_zero_at k (And g h) = false
is_zero_at k (Or g h) = false

-- whether it says so of all variables up to k
abbrev pub are_zeros : ℕ → Test → Bool
are_zeros zero g = is_zero_at 0 g
are_zeros (suc k) (And g h) = are_zeros k g && is_zero_at (suc k) h
are_zeros (suc k) tests.True = false
are_zeros (suc k) tests.False = false
are_zeros (suc k) (Is x v) = false
are_zeros (suc k) (IsNot x v) = false
are_zeros (suc k) (Same x y) = false
are_zeros (suc k) (Differ x y) = false
are_zeros (suc k) (Not g) = false
are_zeros (suc k) (Or g h) = false

zero_at : (k : ℕ) (g : Test) (row : List ℕ) → is_zero_at k g ≡ true → holds_at g row ≡ true → slice_index row k ≡ 0
zero_at k (Is x v) row h t =
    let parts = and_parts (eqb x k) (eqb v 0) h in
    ap (slice_index row) (sym (eqb-true x k parts.0)) ∙ eqb-true (slice_index row x) v t ∙ eqb-true v 0 parts.1
zero_at k tests.True row h t = absurd (false≢true h)
zero_at k tests.False row h t = absurd (false≢true h)
zero_at k (IsNot x v) row h t = absurd (false≢true h)
zero_at k (Same x y) row h t = absurd (false≢true h)
zero_at k (Differ x y) row h t = absurd (false≢true h)
zero_at k (Not g) row h t = absurd (false≢true h)
zero_at k (And g g') row h t = absurd (false≢true h)
zero_at k (Or g g') row h t = absurd (false≢true h)

pub zeros_hold : (k : ℕ) (g : Test) (row : List ℕ) → are_zeros k g ≡ true → holds_at g row ≡ true → (j : ℕ) → j ≤ k → slice_index row j ≡ 0
zeros_hold zero g row h t j low = let e : j ≡ 0 = omega arith in ap (slice_index row) e ∙ zero_at 0 g row h t
zeros_hold (suc k) (And g g') row h t j low =
    let parts = and_parts (are_zeros k g) (is_zero_at (suc k) g') h in
    let both = and_parts (holds_at g row) (holds_at g' row) t in
    elim (cases_eq j (suc k)) [
      | inl same ↦ ap (slice_index row) same ∙ zero_at (suc k) g' row parts.1 both.1
      | inr apart ↦ zeros_hold k g row parts.0 both.0 j (omega arith)
    ]
zeros_hold (suc k) tests.True row h t j low = absurd (false≢true h)
zeros_hold (suc k) tests.False row h t j low = absurd (false≢true h)
zeros_hold (suc k) (Is x v) row h t j low = absurd (false≢true h)
zeros_hold (suc k) (IsNot x v) row h t j low = absurd (false≢true h)
zeros_hold (suc k) (Same x y) row h t j low = absurd (false≢true h)
zeros_hold (suc k) (Differ x y) row h t j low = absurd (false≢true h)
zeros_hold (suc k) (Not g) row h t j low = absurd (false≢true h)
zeros_hold (suc k) (Or g g') row h t j low = absurd (false≢true h)

-- the code of a row of zeros
pub zero_code : (sizes row : List ℕ) → ((j : ℕ) → slice_index row j ≡ 0) → code_of sizes row ≡ 0
zero_code [] row h = refl
zero_code (size ∷ sizes) [] h = refl
zero_code (size ∷ sizes) (digit ∷ row) h =
    let first : digit ≡ 0 = h 0 in
    let more : code_of sizes row ≡ 0 = zero_code sizes row (λ j. h (suc j)) in
    rw (first, more) (omega arith)

-- digits of sizes that are all 2
pub below_two : (sizes row : List ℕ) → AreDigits sizes row → list_all (λ z. eqb z 2) sizes ≡ true → (j : ℕ) → slice_index row j < 2
below_two [] [] are h j = omega arith
below_two [] (digit ∷ row) are h j = absurd are
below_two (size ∷ sizes) [] are h j = absurd are
below_two (size ∷ sizes) (digit ∷ row) are h zero = let e = eqb-true size 2 (and_parts (eqb size 2) (list_all (λ z. eqb z 2) sizes) h).0 in omega (arith, are.0, e)
below_two (size ∷ sizes) (digit ∷ row) are h (suc j) = below_two sizes row are.1 (and_parts (eqb size 2) (list_all (λ z. eqb z 2) sizes) h).1 j

pub no_more : (sizes row : List ℕ) → AreDigits sizes row → (j : ℕ) → length sizes ≤ j → slice_index row j ≡ 0
no_more [] [] are j low = refl
no_more [] (digit ∷ row) are j low = absurd are
no_more (size ∷ sizes) [] are j low = absurd are
no_more (size ∷ sizes) (digit ∷ row) are zero low = absurd (omega arith)
no_more (size ∷ sizes) (digit ∷ row) are (suc j) low = no_more sizes row are.1 j (omega arith)

pub as_many : (sizes row : List ℕ) → AreDigits sizes row → length row ≡ length sizes
as_many [] [] are = refl
as_many [] (digit ∷ row) are = absurd are
as_many (size ∷ sizes) [] are = absurd are
as_many (size ∷ sizes) (digit ∷ row) are = omega (arith, as_many sizes row are.1)
