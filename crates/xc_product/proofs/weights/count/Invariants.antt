use Rattle.std.proofs.Common.{◌≡◌, ◌*◌}
use Rattle.xc_theory.specs.Codes.{total}
use Rattle.xc_alg.specs.Products.{sizes}
use Rattle.xc_product.specs.Parts.{lattices}
use Rattle.xc_product.proofs.Turns.{from}
use Rattle.xc_product.proofs.weights.count.Given as goal

abbrev pub invariant-loop-table : goal.invariant-loop-table
invariant-loop-table l = l.count * (from l.tables l.table-index).size ≡ total (sizes (lattices l.tables))
