-- What follows from the definitions, as statements that public functions carry.
use Rattle.std.specs.Prelude.{◌≡◌, ◌≤◌, ◌*◌, ℕ, suc, Bool, true, false, List}
use Rattle.std.specs.List.{sum}
use Rattle.xc_theory.specs.Lattices.{LatticeData}
use Rattle.xc_alg.specs.Operations.{Operations, IsAlgebra}
use Rattle.xc_alg.specs.Products.{product, AreLawful}
use Rattle.xc_product.specs.Heights.{AreHeights}
use Rattle.xc_fixpoint.specs.Functions.{IsFunction, Agree, AreBelow}
use Rattle.xc_fixpoint.specs.Steps.{Step, IsMonotone, IsStepBelow}
use Rattle.xc_fixpoint.specs.Fixpoints.{IsExtremal, IsLeastFixpoint, IsGreatestFixpoint}
use Rattle.xc_fixpoint.specs.Iterates.{iterate, AreUnsettled, Settles}
use Rattle.xc_fixpoint.specs.Heights.{IsHeight}
use Rattle.xc_fixpoint.specs.Lists.{values, IsExtremalList}

-- a law of every monotone step of n states, in every algebra
abbrev pub OfSteps : (Operations → ℕ → Step → Type 0) → Type 0
OfSteps Law = (o : Operations) → IsAlgebra o → (n : ℕ) (step : Step) → IsMonotone o n step → Law o n step

-- there is a least fixpoint, and a greatest one
abbrev pub LeastExists : Type 0
LeastExists = OfSteps (λ o n step. (f : ℕ → ℕ) × IsLeastFixpoint o n step f)

abbrev pub GreatestExists : Type 0
GreatestExists = OfSteps (λ o n step. (f : ℕ → ℕ) × IsGreatestFixpoint o n step f)

-- and no two that differ at a state
abbrev pub LeastIsUnique : Type 0
LeastIsUnique = OfSteps (λ o n step. (f g : ℕ → ℕ) → IsLeastFixpoint o n step f → IsLeastFixpoint o n step g → Agree n f g)

abbrev pub GreatestIsUnique : Type 0
GreatestIsUnique = OfSteps (λ o n step. (f g : ℕ → ℕ) → IsGreatestFixpoint o n step f → IsGreatestFixpoint o n step g → Agree n f g)

-- what agrees with one is it
abbrev pub AgreeingIsExtremal : Type 0
AgreeingIsExtremal = OfSteps (λ o n step. (up : Bool) (f g : ℕ → ℕ) → Agree n f g → IsExtremal o up n step f → IsExtremal o up n step g)

-- a function that the step takes below itself is above the least fixpoint, one that it takes above itself below the greatest
abbrev pub LeastByInduction : Type 0
LeastByInduction = OfSteps (λ o n step. (f g : ℕ → ℕ) → IsLeastFixpoint o n step f → IsFunction o n g → AreBelow o n (step g) g → AreBelow o n f g)

abbrev pub GreatestByInduction : Type 0
GreatestByInduction = OfSteps (λ o n step. (f g : ℕ → ℕ) → IsGreatestFixpoint o n step f → IsFunction o n g → AreBelow o n g (step g) → AreBelow o n g f)

-- going up each iterate is below the next one, going down above it
abbrev pub IteratesRise : Type 0
IteratesRise = OfSteps (λ o n step. (k : ℕ) → AreBelow o n (iterate o true step k) (iterate o true step (suc k)))

abbrev pub IteratesFall : Type 0
IteratesFall = OfSteps (λ o n step. (k : ℕ) → AreBelow o n (iterate o false step (suc k)) (iterate o false step k))

-- in both directions they settle, at one number
abbrev pub IteratesSettle : Type 0
IteratesSettle = OfSteps (λ o n step. (up : Bool) → (k : ℕ) × Settles o up n step k)

abbrev pub IteratesSettleOnce : Type 0
IteratesSettleOnce = OfSteps (λ o n step. (up : Bool) (j k : ℕ) → Settles o up n step j → Settles o up n step k → j ≡ k)

-- an iterate that agrees with the next one, the first such or a later one, is the least or the greatest fixpoint
abbrev pub SettledIsLeast : Type 0
SettledIsLeast = OfSteps (λ o n step. (k : ℕ) → Agree n (iterate o true step k) (iterate o true step (suc k)) → IsLeastFixpoint o n step (iterate o true step k))

abbrev pub SettledIsGreatest : Type 0
SettledIsGreatest = OfSteps (λ o n step. (k : ℕ) → Agree n (iterate o false step k) (iterate o false step (suc k)) → IsGreatestFixpoint o n step (iterate o false step k))

-- and all iterates after it agree with it
abbrev pub SettledStays : Type 0
SettledStays = OfSteps (λ o n step. (up : Bool) (k later : ℕ) → k ≤ later → Agree n (iterate o up step k) (iterate o up step (suc k)) → Agree n (iterate o up step k) (iterate o up step later))

-- while none of the first k iterates agrees with the next one, k is at most the number of states times the height
abbrev pub UnsettledAreFew : Type 0
UnsettledAreFew = OfSteps (λ o n step. (up : Bool) (height k : ℕ) → IsHeight o height → AreUnsettled o up n step k → k ≤ n * height)

-- so the iterates settle at no larger number
abbrev pub IteratesSettleSoon : Type 0
IteratesSettleSoon = OfSteps (λ o n step. (up : Bool) (height k : ℕ) → IsHeight o height → Settles o up n step k → k ≤ n * height)

-- of a step that is below another the least fixpoint is below the other's, and so is the greatest
abbrev pub LeastGrows : Type 0
LeastGrows = OfSteps (λ o n step. (larger : Step) (f g : ℕ → ℕ) → IsStepBelow o n step larger → IsLeastFixpoint o n step f → IsLeastFixpoint o n larger g → AreBelow o n f g)

abbrev pub GreatestGrows : Type 0
GreatestGrows = OfSteps (λ o n step. (smaller : Step) (f g : ℕ → ℕ) → IsStepBelow o n smaller step → IsGreatestFixpoint o n smaller f → IsGreatestFixpoint o n step g → AreBelow o n f g)

-- a function is the least, or the greatest, fixpoint exactly where the list of its values is that among lists
abbrev pub ExtremalAsList : Type 0
ExtremalAsList = OfSteps (λ o n step. (up : Bool) (f : ℕ → ℕ) → IsExtremal o up n step f → IsExtremalList o up n step (values n f))

abbrev pub ListAsExtremal : Type 0
ListAsExtremal = OfSteps (λ o n step. (up : Bool) (f : ℕ → ℕ) → IsExtremalList o up n step (values n f) → IsExtremal o up n step f)

-- an algebra has one height
abbrev pub HeightsAreUnique : Type 0
HeightsAreUnique = (o : Operations) (height other : ℕ) → IsHeight o height → IsHeight o other → height ≡ other

-- the height of a product is the sum of the heights of its parts
abbrev pub HeightsOfProducts : Type 0
HeightsOfProducts = (parts : List LatticeData) (heights : List ℕ) → AreLawful parts → AreHeights parts heights → IsHeight (product parts) (sum heights)
