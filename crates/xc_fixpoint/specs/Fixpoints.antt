-- Fixpoints of a step, of which the least and the greatest are told by comparison with all others.
use Rattle.std.specs.Prelude.{ℕ, Bool, true, false}
use Rattle.xc_alg.specs.Operations.{Operations}
use Rattle.xc_fixpoint.specs.Functions.{IsFunction, Agree, AreBefore}
use Rattle.xc_fixpoint.specs.Steps.{Step}

-- a function that the step leaves as it is
pub record IsFixpoint (o : Operations) (n : ℕ) (step : Step) (f : ℕ → ℕ) : Type 0 where
  pub in_range : IsFunction o n f
  pub fixed : Agree n f (step f)

-- the fixpoint that comes before every fixpoint: going up the least one, going down the greatest
pub record IsExtremal (o : Operations) (up : Bool) (n : ℕ) (step : Step) (f : ℕ → ℕ) : Type 0 where
  pub fixpoint : IsFixpoint o n step f
  pub first : (g : ℕ → ℕ) → IsFixpoint o n step g → AreBefore o up n f g

-- the fixpoint that is below every fixpoint
abbrev pub IsLeastFixpoint : Operations → ℕ → Step → (ℕ → ℕ) → Type 0
IsLeastFixpoint o n step f = IsExtremal o true n step f

-- the fixpoint that every fixpoint is below
abbrev pub IsGreatestFixpoint : Operations → ℕ → Step → (ℕ → ℕ) → Type 0
IsGreatestFixpoint o n step f = IsExtremal o false n step f
