-- In each direction elements, and functions, are in an order.
use Rattle.std.proofs.Common.{◌≡◌, ℕ, ◌<◌, Bool, true, false, sym, subst}
use Rattle.xc_alg.specs.Operations.{Operations, IsAlgebra}
use Rattle.xc_fixpoint.specs.Functions.{IsFunction, Agree, Before, AreBefore}
use Rattle.xc_fixpoint.specs.Steps.{Step, IsMonotone}
use Rattle.xc_fixpoint.specs.Iterates.{start}

module _ (o : Operations) (laws : IsAlgebra o) where
  pub before_reflexive : (up : Bool) (a : ℕ) → a < o.size → Before o up a a
  before_reflexive true a ha = laws.reflexive a ha
  before_reflexive false a ha = laws.reflexive a ha

  pub before_transitive : (up : Bool) (a b c : ℕ) → a < o.size → b < o.size → c < o.size → Before o up a b → Before o up b c → Before o up a c
  before_transitive true a b c ha hb hc h k = laws.transitive a b c ha hb hc h k
  before_transitive false a b c ha hb hc h k = laws.transitive c b a hc hb ha k h

  pub before_antisymmetric : (up : Bool) (a b : ℕ) → a < o.size → b < o.size → Before o up a b → Before o up b a → a ≡ b
  before_antisymmetric true a b ha hb h k = laws.antisymmetric a b ha hb h k
  before_antisymmetric false a b ha hb h k = laws.antisymmetric a b ha hb k h

  pub start_in_range : (up : Bool) → start o up < o.size
  start_in_range true = laws.bottom_in_range
  start_in_range false = laws.top_in_range

  pub start_before : (up : Bool) (a : ℕ) → a < o.size → Before o up (start o up) a
  start_before true a ha = laws.bottom_below a ha
  start_before false a ha = laws.top_above a ha

  pub are_before_transitive : (up : Bool) (n : ℕ) (f g h : ℕ → ℕ) → IsFunction o n f → IsFunction o n g → IsFunction o n h → AreBefore o up n f g → AreBefore o up n g h → AreBefore o up n f h
  are_before_transitive up n f g h hf hg hh p q s low = before_transitive up (f s) (g s) (h s) (hf s low) (hg s low) (hh s low) (p s low) (q s low)

  pub are_before_antisymmetric : (up : Bool) (n : ℕ) (f g : ℕ → ℕ) → IsFunction o n f → IsFunction o n g → AreBefore o up n f g → AreBefore o up n g f → Agree n f g
  are_before_antisymmetric up n f g hf hg p q s low = before_antisymmetric up (f s) (g s) (hf s low) (hg s low) (p s low) (q s low)

  -- functions that agree come before each other
  pub agree-before : (up : Bool) (n : ℕ) (f g : ℕ → ℕ) → IsFunction o n f → Agree n f g → AreBefore o up n f g
  agree-before up n f g hf same s low = subst (λ (x : ℕ). Before o up (f s) x) (same s low) (before_reflexive up (f s) (hf s low))

  -- a step keeps the order in each direction, and so depends on the values at the states alone
  pub step_keeps_before : (up : Bool) (n : ℕ) (step : Step) → IsMonotone o n step → (f g : ℕ → ℕ) → IsFunction o n f → IsFunction o n g → AreBefore o up n f g → AreBefore o up n (step f) (step g)
  step_keeps_before true n step monotone f g hf hg h = monotone.larger f g hf hg h
  step_keeps_before false n step monotone f g hf hg h = monotone.larger g f hg hf h

  pub step_keeps_agree : (n : ℕ) (step : Step) → IsMonotone o n step → (f g : ℕ → ℕ) → IsFunction o n f → IsFunction o n g → Agree n f g → Agree n (step f) (step g)
  step_keeps_agree n step monotone f g hf hg same =
      are_before_antisymmetric true n (step f) (step g) (monotone.in_range f hf) (monotone.in_range g hg)
      (monotone.larger f g hf hg (agree-before true n f g hf same))
      (monotone.larger g f hg hf (agree-before true n g f hg (λ s low. sym (same s low))))

-- what agrees with a function is one
pub agree-function : (o : Operations) (n : ℕ) (f g : ℕ → ℕ) → Agree n f g → IsFunction o n f → IsFunction o n g
agree-function o n f g same hf s low = subst (λ (x : ℕ). x < o.size) (same s low) (hf s low)
