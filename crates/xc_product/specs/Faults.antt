-- Why there is no product.
use Rattle.std.specs.Prelude.{◌≡◌, ◌<◌, ◌≤◌, List}
use Rattle.xc_theory.specs.Lattices.{LatticeData}
use Rattle.xc_theory.specs.Codes.{total}
use Rattle.xc_alg.specs.Products.{sizes}
use Rattle.xc_product.specs.declared.fault.ProductFault.{ProductFault}
use Rattle.xc_product.specs.declared.fault.ProductFault.TheVariants.{TooLarge, Memory}

-- the sizes multiply to that number, over 4,096; want of memory is told only of parts that are not too large
abbrev pub IsFaultOf : List LatticeData → ProductFault → Type 0
IsFaultOf parts (TooLarge size) = (size ≡ total (sizes parts)) × (4096 < size)
IsFaultOf parts Memory = total (sizes parts) ≤ 4096
