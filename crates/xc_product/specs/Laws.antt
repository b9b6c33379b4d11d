-- What follows from the definitions, as a statement that a public function carries.
use Rattle.std.specs.Prelude.{ℕ, List}
use Rattle.xc_theory.specs.Lattices.{LatticeData}
use Rattle.xc_alg.specs.Products.{AreLawful}
use Rattle.xc_product.specs.Heights.{AreHeights}

-- whatever lawful lattices there are, each has a height
abbrev pub LawfulPartsHaveHeights : Type 0
LawfulPartsHaveHeights = (parts : List LatticeData) → AreLawful parts → (heights : List ℕ) × AreHeights parts heights
