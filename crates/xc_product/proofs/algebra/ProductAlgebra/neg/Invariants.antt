use Rattle.std.proofs.Common.{◌≡◌, ◌+◌, ◌<◌}
use Rattle.xc_alg.specs.Products.{product}
use Rattle.xc_product.specs.Parts.{lattices}
use Rattle.xc_product.proofs.Turns.{from}
use Rattle.xc_product.proofs.algebra.ProductAlgebra.neg.Given as goal

abbrev pub invariant-loop-part : goal.invariant-loop-part
invariant-loop-part l = record {
  code_in : l.code < (from l.self.tables l.part).size;
  negated : l.negated + (from l.self.tables l.part).negation l.code ≡ (product (lattices l.self.tables)).negation l.a;
}
