use Rattle.std.proofs.Common.{◌≡◌, take}
use Rattle.xc_product.specs.Parts.{lattices, rooms}
use Rattle.xc_product.proofs.product.copy_tables.Given as goal

abbrev pub invariant-loop-table : goal.invariant-loop-table
invariant-loop-table l = record {
  same : lattices l.copies ≡ lattices (take l.table-index l.tables);
  rooms : rooms l.copies ≡ rooms (take l.table-index l.tables);
}
