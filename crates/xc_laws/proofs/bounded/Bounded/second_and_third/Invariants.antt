use Rattle.std.proofs.Common.{◌≡◌, ℕ, ◌<◌, [], ◌∷◌, None}
use Rattle.std.specs.List.{find, range_with_len}
use Rattle.xc_theory.specs.Lattices.{size}
use Rattle.xc_laws.specs.Breaks.{breaks}
use Rattle.xc_laws.specs.Bounded.{lattice_of}
use Rattle.xc_laws.specs.declared.law.Law.TheVariants.{Distributive}
use Rattle.xc_laws.proofs.bounded.Bounded.second_and_third.Given as goal

abbrev pub invariant-loop-b : goal.invariant-loop-b
invariant-loop-b l = (k : ℕ) → k < l.b → find (λ c. breaks (lattice_of l.self) Distributive (l.a ∷ k ∷ c ∷ [])) (range_with_len 0 (size (lattice_of l.self))) ≡ None
