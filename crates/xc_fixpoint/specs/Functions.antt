-- Functions from n states to the elements of an algebra, and their order. The states are the numbers below n; what a
-- function gives past them says nothing.
use Rattle.std.specs.Prelude.{◌≡◌, ◌<◌, ℕ, Bool, true, false}
use Rattle.xc_alg.specs.Operations.{Operations}

-- each value is an element
abbrev pub IsFunction : Operations → ℕ → (ℕ → ℕ) → Type 0
IsFunction o n f = (s : ℕ) → s < n → f s < o.size

-- at each state the same value
abbrev pub Agree : ℕ → (ℕ → ℕ) → (ℕ → ℕ) → Type 0
Agree n f g = (s : ℕ) → s < n → f s ≡ g s

-- a comes before b: going up where it is below b, going down where it is above b
abbrev pub Before : Operations → Bool → ℕ → ℕ → Type 0
Before o true a b = o.below a b ≡ true
Before o false a b = o.below b a ≡ true

-- f comes before g: at each state
abbrev pub AreBefore : Operations → Bool → ℕ → (ℕ → ℕ) → (ℕ → ℕ) → Type 0
AreBefore o up n f g = (s : ℕ) → s < n → Before o up (f s) (g s)

-- f is below g: at each state
abbrev pub AreBelow : Operations → ℕ → (ℕ → ℕ) → (ℕ → ℕ) → Type 0
AreBelow o n f g = AreBefore o true n f g
