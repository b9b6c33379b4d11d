use Rattle.std.proofs.Common.{◌≡◌, ◌+◌, ◌<◌, ℕ, drop, get_or}
use Rattle.xc_theory.specs.Codes.{digits}
use Rattle.xc_alg.specs.Products.{sizes}
use Rattle.xc_product.specs.Parts.{lattices}
use Rattle.xc_product.proofs.Turns.{from}
use Rattle.xc_product.proofs.product.Product.digit.Given as goal

abbrev pub invariant-loop-earlier : goal.invariant-loop-earlier
invariant-loop-earlier l = record {
  rest_in : l.rest < (from l.self.tables l.earlier).size;
  digits_left : (k : ℕ) → get_or (digits (sizes (lattices l.self.tables)) l.code) (l.earlier + k) 0 ≡ get_or (digits (sizes (lattices (drop l.earlier l.self.tables))) l.rest) k 0;
}
