-- Lists of pairs, as relations between elements.
use Rattle.std.specs.Prelude.{ℕ, ◌<◌, List, Contains, All}
use Rattle.xc_order.specs.declared.order.Pair.{Pair}

-- the pairs say that a is below b
abbrev pub IsListed : List Pair → ℕ → ℕ → Type 0
IsListed pairs a b = Contains pairs (record { low = a; high = b })

-- each pair is of elements below n
abbrev pub AreBelow : ℕ → List Pair → Type 0
AreBelow n pairs = All (λ p. (p.low < n) × (p.high < n)) pairs
