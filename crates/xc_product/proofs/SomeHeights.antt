-- Lawful lattices have heights.
use Rattle.std.proofs.Common.{◌≤◌, ℕ, List, [], ◌∷◌, arith}
use Rattle.xc_theory.specs.Chains.{IsHeight}
use Rattle.xc_theory.specs.Lattices.{LatticeData, IsLawful, size}
use Rattle.xc_alg.specs.Products.{AreLawful}
use Rattle.xc_order.proofs.Heights.{height_of}
use Rattle.xc_product.specs.Heights.{AreHeights}

-- a lawful lattice has one
pub lattice_height : (l : LatticeData) → IsLawful l → 2 ≤ size l → (h : ℕ) × IsHeight l.order h
lattice_height l lawful some =
    height_of (size l) l.order
    (record { positive = omega (arith, some); square = lawful.shape.square; reflexive = lawful.reflexive; transitive = lawful.transitive })
    lawful.antisymmetric

-- and so have some of them
pub parts_have_heights : (parts : List LatticeData) → AreLawful parts → (heights : List ℕ) × AreHeights parts heights
parts_have_heights [] are = ([], tt)
parts_have_heights (l ∷ parts) are =
    let first = lattice_height l are.0 are.1 in
    let more = parts_have_heights parts are.2 in
    (first.0 ∷ more.0, (first.1, more.1))
