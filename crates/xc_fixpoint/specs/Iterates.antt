-- The iterates of a step: going up from the bottom, going down from the top.
use Rattle.std.specs.Prelude.{ℕ, zero, suc, ◌<◌, Bool, true, false}
use Rattle.xc_alg.specs.Operations.{Operations}
use Rattle.xc_fixpoint.specs.Functions.{Agree}
use Rattle.xc_fixpoint.specs.Steps.{Step}

-- where they begin
abbrev pub start : Operations → Bool → ℕ
start o true = o.bottom
start o false = o.top

-- the start at each state, and then one step after the other
abbrev pub iterate : Operations → Bool → Step → ℕ → ℕ → ℕ
iterate o up step zero = λ s. start o up
iterate o up step (suc k) = step (iterate o up step k)

-- none of the first k iterates agrees with the next one
abbrev pub AreUnsettled : Operations → Bool → ℕ → Step → ℕ → Type 0
AreUnsettled o up n step k = (j : ℕ) → j < k → Agree n (iterate o up step j) (iterate o up step (suc j)) → ⊥

-- k is the least number whose iterate agrees with the next one
pub record Settles (o : Operations) (up : Bool) (n : ℕ) (step : Step) (k : ℕ) : Type 0 where
  pub settled : Agree n (iterate o up step k) (iterate o up step (suc k))
  pub unsettled : AreUnsettled o up n step k
