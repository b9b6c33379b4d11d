use Rattle.std.proofs.Common.{◌≡◌, ℕ, ◌<◌, [], ◌∷◌, None}
use Rattle.std.specs.List.{find, range_with_len}
use Rattle.xc_theory.specs.Lattices.{size}
use Rattle.xc_laws.specs.Breaks.{breaks}
use Rattle.xc_laws.specs.Bounded.{lattice_of}
use Rattle.xc_laws.proofs.bounded.Bounded.first_two.Given as goal

abbrev pub invariant-loop-a : goal.invariant-loop-a
invariant-loop-a l = (k : ℕ) → k < l.a → find (λ b. breaks (lattice_of l.self) l.law (k ∷ b ∷ [])) (range_with_len 0 (size (lattice_of l.self))) ≡ None
