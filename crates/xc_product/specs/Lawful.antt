-- Tables tell lawful lattices, and so their product is an algebra.
use Rattle.std.specs.Prelude.{◌≤◌, List, [], ◌∷◌}
use Rattle.xc_theory.specs.Lattices.{IsLawful, size}
use Rattle.xc_alg.specs.Operations.{IsAlgebra}
use Rattle.xc_alg.specs.Products.{product, AreLawful}
use Rattle.xc_alg.specs.AnyTables.{lattice_in_any}
use Rattle.xc_alg.specs.declared.any_table.AnyTable.{AnyTable}
use Rattle.xc_alg.specs.declared.any_table.AnyTable.TheVariants.{T4, T16, T64}
use Rattle.xc_alg.proofs.Products.{product_laws}
use Rattle.xc_product.specs.Parts.{lattices}

pub lawful_part : (table : AnyTable) → IsLawful (lattice_in_any table) × (2 ≤ size (lattice_in_any table))
lawful_part (T4 table) = (table.tells.lawful, table.tells.several)
lawful_part (T16 table) = (table.tells.lawful, table.tells.several)
lawful_part (T64 table) = (table.value.tells.lawful, table.value.tells.several)

pub lawful_parts : (tables : List AnyTable) → AreLawful (lattices tables)
lawful_parts [] = tt
lawful_parts (table ∷ tables) = ((lawful_part table).0, (lawful_part table).1, lawful_parts tables)

pub lawful_product : (tables : List AnyTable) → IsAlgebra (product (lattices tables))
lawful_product tables = product_laws (lattices tables) (lawful_parts tables)
