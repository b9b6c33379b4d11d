-- Chains of an order table, and its height.
use Rattle.std.specs.Prelude.{◌≡◌, ◌≢◌, ◌<◌, ◌≤◌, ◌+◌, ℕ, Bool, true, List, [], ◌∷◌, length}
use Rattle.xc_theory.specs.Orders.{is_below}

-- each element is below the next one and is not the next one
abbrev pub IsChain : List (List Bool) → List ℕ → Type 0
IsChain table [] = Unit {0}
IsChain table (x ∷ []) = x < length table
IsChain table (x ∷ y ∷ rest) = (x < length table) × (is_below table x y ≡ true) × (x ≢ y) × IsChain table (y ∷ rest)

-- the number of steps of a longest chain, which has one element more
pub record IsHeight (table : List (List Bool)) (height : ℕ) : Type 0 where
  pub chain : List ℕ
  pub is_chain : IsChain table chain
  pub reached : length chain ≡ height + 1
  pub greatest : (xs : List ℕ) → IsChain table xs → length xs ≤ height + 1
