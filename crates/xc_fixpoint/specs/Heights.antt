-- Chains of an algebra, and its height.
use Rattle.std.specs.Prelude.{◌≡◌, ◌≢◌, ◌<◌, ◌≤◌, ◌+◌, ℕ, true, List, [], ◌∷◌, length}
use Rattle.xc_alg.specs.Operations.{Operations}

-- each element is below the next one and is not the next one
abbrev pub IsChain : Operations → List ℕ → Type 0
IsChain o [] = Unit {0}
IsChain o (x ∷ []) = x < o.size
IsChain o (x ∷ y ∷ rest) = (x < o.size) × (o.below x y ≡ true) × (x ≢ y) × IsChain o (y ∷ rest)

-- the number of steps of a longest chain, which has one element more
pub record IsHeight (o : Operations) (height : ℕ) : Type 0 where
  pub chain : List ℕ
  pub is_chain : IsChain o chain
  pub reached : length chain ≡ height + 1
  pub greatest : (xs : List ℕ) → IsChain o xs → length xs ≤ height + 1
