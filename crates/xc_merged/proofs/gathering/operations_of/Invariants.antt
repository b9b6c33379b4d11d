use Rattle.std.proofs.Common.{◌≡◌, map, take}
use Rattle.xc_product.specs.Parts.{lattices}
use Rattle.xc_merged.specs.Gathering.{operations}
use Rattle.xc_merged.proofs.gathering.operations_of.Given as goal

abbrev pub invariant-loop-table : goal.invariant-loop-table
invariant-loop-table l = lattices l.list ≡ map operations (take l.table-index l.tables)
