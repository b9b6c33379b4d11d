use Rattle.xc_alg.specs.AnyTables.{lattice_in_any}
use Rattle.xc_product.specs.Heights.{ListsRows}
use Rattle.xc_product.proofs.heights.pairs_below.Given as goal

abbrev pub invariant-loop-low : goal.invariant-loop-low
invariant-loop-low l = ListsRows (lattice_in_any l.table) l.low l.pairs
