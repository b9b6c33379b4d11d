-- What a product stands for.
use Rattle.std.specs.Prelude.{ℕ, List}
use Rattle.xc_theory.specs.Lattices.{LatticeData}
use Rattle.xc_product.specs.Parts.{lattices, rooms}
use Rattle.xc_product.specs.declared.product.Product.{Product}

-- the lattices of its parts, in order
abbrev pub parts_of : Product → List LatticeData
parts_of p = lattices p.tables

-- for how many elements the table of each part has room
abbrev pub rooms_of : Product → List ℕ
rooms_of p = rooms p.tables
