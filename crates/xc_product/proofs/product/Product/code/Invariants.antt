use Rattle.std.proofs.Common.{◌≡◌, ◌+◌, drop}
use Rattle.xc_theory.specs.Codes.{code_of}
use Rattle.xc_alg.specs.Products.{sizes}
use Rattle.xc_product.specs.Parts.{lattices}
use Rattle.xc_product.proofs.product.Product.code.Given as goal

abbrev pub invariant-loop-part : goal.invariant-loop-part
invariant-loop-part l = l.code + code_of (sizes (lattices (drop l.part l.self.tables))) (drop l.part l.digits) ≡ code_of (sizes (lattices l.self.tables)) l.digits
