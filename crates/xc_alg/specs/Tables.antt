-- Tables of the meets, joins and negations of a lattice.
use Rattle.std.specs.Prelude.{◌≡◌, ◌==◌, ◌<◌, ◌≤◌, ℕ, List, [], map, slice_index}
use Rattle.std.specs.List.{slice_index_or, range_with_len}
use Rattle.xc_theory.specs.Lattices.{LatticeData, IsLawful, size, meet, join, negation}

-- what stands in row a and column b
abbrev pub entry : List (List ℕ) → ℕ → ℕ → ℕ
entry rows a b = slice_index (slice_index_or rows a []) b

-- The first n rows and columns are the meets and the joins, and the first n places the negations, of a lawful lattice
-- of n elements, two at least. What stands past them says nothing.
pub record AreTablesOf (l : LatticeData) (n : ℕ) (meet_rows join_rows : List (List ℕ)) (negation_row : List ℕ) : Type 0 where
  pub lawful : IsLawful l
  pub sized : size l ≡ n
  pub several : 2 ≤ size l
  pub meets : (a b : ℕ) → a < n → b < n → entry meet_rows a b ≡ meet l a b
  pub joins : (a b : ℕ) → a < n → b < n → entry join_rows a b ≡ join l a b
  pub negations : (a : ℕ) → a < n → slice_index negation_row a ≡ negation l a

-- The lattice that tables tell: a is below b where a is the meet of both.
unfoldable pub lattice_in : ℕ → List (List ℕ) → List ℕ → LatticeData
lattice_in n meet_rows negation_row =
    record {
      order = map (λ a. map (λ b. entry meet_rows a b == a) (range_with_len 0 n)) (range_with_len 0 n);
      negations = map (λ a. slice_index negation_row a) (range_with_len 0 n);
    }
