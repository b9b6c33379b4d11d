use Rattle.std.proofs.Common.{arith, ◌∙◌}
use Rattle.xc_alg.specs.AnyTables.{lattice_in_any}
use Rattle.xc_alg.proofs.Tables.{product_size}
use Rattle.xc_product.proofs.Sizes.{small_part}
use Rattle.xc_product.proofs.heights.size.Goals as goal

pub overflow_cast-result : goal.overflow_cast-result
overflow_cast-result c = omega (arith, c.size.ensures, product_size (lattice_in_any c.args.table.now), small_part c.args.table.now)

pub returns : goal.returns
returns c = record { size = c.size.ensures ∙ product_size (lattice_in_any c.args.table.now); limit = omega (arith, c.size.ensures, product_size (lattice_in_any c.args.table.now), small_part c.args.table.now) }
