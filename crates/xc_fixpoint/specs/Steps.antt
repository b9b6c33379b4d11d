-- Steps, which make a function of a function.
use Rattle.std.specs.Prelude.{ℕ}
use Rattle.xc_alg.specs.Operations.{Operations}
use Rattle.xc_fixpoint.specs.Functions.{IsFunction, AreBelow}

abbrev pub Step : Type 0
Step = (ℕ → ℕ) → ℕ → ℕ

-- a step of n states that makes functions of functions, and larger ones of larger ones
pub record IsMonotone (o : Operations) (n : ℕ) (step : Step) : Type 0 where
  pub in_range : (f : ℕ → ℕ) → IsFunction o n f → IsFunction o n (step f)
  pub larger : (f g : ℕ → ℕ) → IsFunction o n f → IsFunction o n g → AreBelow o n f g → AreBelow o n (step f) (step g)

-- at each function, what a step makes of it is below what another makes of it
abbrev pub IsStepBelow : Operations → ℕ → Step → Step → Type 0
IsStepBelow o n step other = (f : ℕ → ℕ) → IsFunction o n f → AreBelow o n (step f) (other f)
