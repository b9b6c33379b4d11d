-- Functions of n states written as lists, the value at each state after the one before.
use Rattle.std.specs.Prelude.{◌≡◌, ℕ, Bool, List, [], ◌∷◌, length, map, slice_index}
use Rattle.std.specs.List.{range_with_len}
use Rattle.xc_alg.specs.Operations.{Operations}
use Rattle.xc_alg.specs.Bounds.{AreElements}
use Rattle.xc_fixpoint.specs.Functions.{Before}
use Rattle.xc_fixpoint.specs.Steps.{Step}

-- the values of a function at n states
abbrev pub values : ℕ → (ℕ → ℕ) → List ℕ
values n f = map f (range_with_len 0 n)

-- each element comes before its counterpart, and none is without one
abbrev pub AreListsBefore : Operations → Bool → List ℕ → List ℕ → Type 0
AreListsBefore o up [] [] = Unit {0}
AreListsBefore o up (x ∷ xs) (y ∷ ys) = Before o up x y × AreListsBefore o up xs ys
AreListsBefore _ _ _ _ = ⊥

-- n elements that the step, of the function whose values they are, gives again
pub record IsFixedList (o : Operations) (n : ℕ) (step : Step) (xs : List ℕ) : Type 0 where
  pub sized : length xs ≡ n
  pub elements : AreElements o.size xs
  pub fixed : values n (step (slice_index xs)) ≡ xs

-- such a list that comes before every such list: going up the least one, going down the greatest
pub record IsExtremalList (o : Operations) (up : Bool) (n : ℕ) (step : Step) (xs : List ℕ) : Type 0 where
  pub fixpoint : IsFixedList o n step xs
  pub first : (ys : List ℕ) → IsFixedList o n step ys → AreListsBefore o up xs ys
