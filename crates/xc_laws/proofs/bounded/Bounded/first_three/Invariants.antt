use Rattle.std.proofs.Common.{◌≡◌, ℕ, ◌<◌, ◌∷◌, None}
use Rattle.std.specs.List.{find}
use Rattle.xc_theory.specs.Lattices.{size}
use Rattle.xc_laws.specs.Breaks.{breaks, tuples}
use Rattle.xc_laws.specs.Bounded.{lattice_of}
use Rattle.xc_laws.specs.declared.law.Law.TheVariants.{Distributive}
use Rattle.xc_laws.proofs.bounded.Bounded.first_three.Given as goal

abbrev pub invariant-loop-a : goal.invariant-loop-a
invariant-loop-a l = (k : ℕ) → k < l.a → find (λ t. breaks (lattice_of l.self) Distributive (k ∷ t)) (tuples (size (lattice_of l.self)) 2) ≡ None
