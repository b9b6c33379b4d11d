-- The heights of the parts of a product, and the pairs of elements that an order is given by.
use Rattle.std.specs.Prelude.{◌≡◌, ◌<◌, ℕ, true, List, [], ◌∷◌, sum}
use Rattle.xc_theory.specs.Chains.{IsHeight}
use Rattle.xc_theory.specs.Lattices.{LatticeData, size, below}
use Rattle.xc_order.specs.declared.order.Pair.{Pair}
use Rattle.xc_order.specs.Pairs.{IsListed}

-- one number for each lattice, which is its height
abbrev pub AreHeights : List LatticeData → List ℕ → Type 0
AreHeights [] [] = Unit {0}
AreHeights (l ∷ parts) (height ∷ heights) = IsHeight l.order height × AreHeights parts heights
AreHeights _ _ = ⊥

-- there are such numbers
abbrev pub HaveHeights : List LatticeData → Type 0
HaveHeights parts = ∥ ((heights : List ℕ) × AreHeights parts heights) ∥₁

-- the number is the sum of the heights
abbrev pub IsSumOfHeights : List LatticeData → ℕ → Type 0
IsSumOfHeights parts height = (heights : List ℕ) × AreHeights parts heights × (height ≡ sum heights)

-- What the steps of the code make of pairs: public clauses do not rest on these words.
-- the pairs are of elements of which the first is below the second
abbrev pub AreOfOrder : LatticeData → List Pair → Type 0
AreOfOrder l pairs = (a b : ℕ) → IsListed pairs a b → (a < size l) × (b < size l) × (below l a b ≡ true)

-- all such pairs whose first element stands before a number, and only pairs of the order
pub record ListsRows (l : LatticeData) (rows : ℕ) (pairs : List Pair) : Type 0 where
  pub sound : AreOfOrder l pairs
  pub listed : (a b : ℕ) → a < rows → b < size l → below l a b ≡ true → IsListed pairs a b

-- the same, and the pairs of one more element with the first so many
pub record OnRow (l : LatticeData) (row columns : ℕ) (pairs : List Pair) : Type 0 where
  pub rows : ListsRows l row pairs
  pub begun : (b : ℕ) → b < columns → below l row b ≡ true → IsListed pairs row b
