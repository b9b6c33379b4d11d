use Rattle.xc_alg.specs.AnyTables.{lattice_in_any}
use Rattle.xc_product.specs.Heights.{OnRow}
use Rattle.xc_product.proofs.heights.push_row.Given as goal

abbrev pub invariant-loop-high : goal.invariant-loop-high
invariant-loop-high l = OnRow (lattice_in_any l.table) l.low l.high l.pairs
