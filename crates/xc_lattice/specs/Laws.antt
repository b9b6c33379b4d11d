-- What follows from the definitions, as statements that public functions carry.
use Rattle.std.specs.Prelude.{◌≡◌, List}
use Rattle.xc_base.specs.Formats.{Row}
use Rattle.xc_lattice.specs.LatticeFiles.{Verdict, IsVerdict}

-- a file has one verdict at most
abbrev pub VerdictsAreUnique : Type 0
VerdictsAreUnique = (rows : List Row) (a b : Verdict) → IsVerdict rows a → IsVerdict rows b → a ≡ b

-- and one at least
abbrev pub EachHasVerdict : Type 0
EachHasVerdict = (rows : List Row) → (a : Verdict) × IsVerdict rows a
