-- The product of a list of parts, each of them lattice data. An element is the code of one digit for each part, and
-- the order, the bounds, the negation, the bottom and the top go digit by digit.
use Rattle.std.specs.Prelude.{◌≤◌, ℕ, Bool, true, ◌&&◌, List, [], ◌∷◌, map, drop, slice_index}
use Rattle.xc_theory.specs.Bounds.{meet_of, join_of}
use Rattle.xc_theory.specs.Lattices.{LatticeData, size, below, negation, IsLawful}
use Rattle.xc_theory.specs.Codes.{total, digits, code_of}
use Rattle.xc_alg.specs.Operations.{Operations}

abbrev pub sizes : List LatticeData → List ℕ
sizes parts = map size parts

-- each part is a lawful lattice of at least two elements
abbrev pub AreLawful : List LatticeData → Type 0
AreLawful [] = Unit {0}
AreLawful (l ∷ parts) = IsLawful l × (2 ≤ size l) × AreLawful parts

-- the first digits of some rows of digits, and what is left of the rows
abbrev pub firsts : List (List ℕ) → List ℕ
firsts rows = map (λ row. slice_index row 0) rows

abbrev pub rests : List (List ℕ) → List (List ℕ)
rests rows = map (drop 1) rows

-- for each part a bound, in it, of its digits in the rows
abbrev pub bound_digits : (LatticeData → List ℕ → ℕ) → List LatticeData → List (List ℕ) → List ℕ
bound_digits bound [] rows = []
bound_digits bound (l ∷ parts) rows = bound l (firsts rows) ∷ bound_digits bound parts (rests rows)

-- the negation of each digit, in its part
abbrev pub negation_digits : List LatticeData → List ℕ → List ℕ
negation_digits [] row = []
negation_digits (l ∷ parts) row = negation l (slice_index row 0) ∷ negation_digits parts (drop 1 row)

-- whether each digit of the first row is below that of the second, in its part
abbrev pub below_digits : List LatticeData → List ℕ → List ℕ → Bool
below_digits [] left right = true
below_digits (l ∷ parts) left right = below l (slice_index left 0) (slice_index right 0) && below_digits parts (drop 1 left) (drop 1 right)

-- the greatest lower and the least upper bound of a list of codes
abbrev pub meet_codes : List LatticeData → List ℕ → ℕ
meet_codes parts codes = code_of (sizes parts) (bound_digits (λ l digits. meet_of l.order digits) parts (map (digits (sizes parts)) codes))

abbrev pub join_codes : List LatticeData → List ℕ → ℕ
join_codes parts codes = code_of (sizes parts) (bound_digits (λ l digits. join_of l.order digits) parts (map (digits (sizes parts)) codes))

-- the operations of the product, on codes
unfoldable pub product : List LatticeData → Operations
product parts =
    record {
      size = total (sizes parts);
      below = λ a b. below_digits parts (digits (sizes parts) a) (digits (sizes parts) b);
      meet = λ a b. meet_codes parts (a ∷ b ∷ []);
      join = λ a b. join_codes parts (a ∷ b ∷ []);
      negation = λ a. code_of (sizes parts) (negation_digits parts (digits (sizes parts) a));
      bottom = join_codes parts [];
      top = meet_codes parts [];
    }
