use Rattle.std.proofs.Common.{◌≡◌, ◌<◌}
use Rattle.xc_alg.specs.Products.{product}
use Rattle.xc_product.specs.Parts.{lattices}
use Rattle.xc_product.proofs.Turns.{from}
use Rattle.xc_product.proofs.algebra.ProductAlgebra.le.Given as goal

abbrev pub invariant-loop-part : goal.invariant-loop-part
invariant-loop-part l = record {
  left_in : l.left < (from l.self.tables l.part).size;
  right_in : l.right < (from l.self.tables l.part).size;
  below : (from l.self.tables l.part).below l.left l.right ≡ (product (lattices l.self.tables)).below l.a l.b;
}
