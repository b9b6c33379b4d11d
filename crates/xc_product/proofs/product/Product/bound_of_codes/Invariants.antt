use Rattle.std.proofs.Common.{◌≡◌, ◌+◌, ◌<◌}
use Rattle.xc_alg.specs.Products.{product}
use Rattle.xc_product.specs.Bounds.{bound_of}
use Rattle.xc_product.specs.Parts.{lattices}
use Rattle.xc_product.proofs.Turns.{from}
use Rattle.xc_product.proofs.product.Product.bound_of_codes.Given as goal

abbrev pub invariant-loop-part : goal.invariant-loop-part
invariant-loop-part l = record {
  left_in : l.left < (from l.self.tables l.part).size;
  right_in : l.right < (from l.self.tables l.part).size;
  bounded : l.code + bound_of l.which (from l.self.tables l.part) l.left l.right ≡ bound_of l.which (product (lattices l.self.tables)) l.a l.b;
}
