-- Lattice data without a break, and lawful lattice data.
use Rattle.std.specs.Prelude.{◌≡◌, ◌<◌, ℕ, true, None}
use Rattle.xc_theory.specs.Lattices.{LatticeData, size, below, IsWellShaped, IsLawful}
use Rattle.xc_laws.specs.Breaks.{first_break}

-- well-shaped data of a reflexive and transitive order that break no law are lawful
abbrev pub LawfulWithoutBreak : Type 0
LawfulWithoutBreak =
    (l : LatticeData) → IsWellShaped l
    → ((a : ℕ) → a < size l → below l a a ≡ true)
    → ((a b c : ℕ) → a < size l → b < size l → c < size l → below l a b ≡ true → below l b c ≡ true → below l a c ≡ true)
    → first_break l ≡ None → IsLawful l

-- lawful data break no law
abbrev pub LawfulIsUnbroken : Type 0
LawfulIsUnbroken = (l : LatticeData) → IsLawful l → first_break l ≡ None
