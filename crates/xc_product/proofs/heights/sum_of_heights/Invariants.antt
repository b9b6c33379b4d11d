use Rattle.std.proofs.Common.{◌+◌, ◌*◌, ◌≤◌, ℕ, drop}
use Rattle.xc_product.specs.Parts.{lattices}
use Rattle.xc_product.specs.Heights.{IsSumOfHeights}
use Rattle.xc_product.proofs.heights.sum_of_heights.Given as goal

abbrev pub invariant-loop-table : goal.invariant-loop-table
invariant-loop-table l = record {
  small : l.sum ≤ 64 * l.table-index;
  summed : (rest : ℕ) → IsSumOfHeights (lattices (drop l.table-index l.tables)) rest → IsSumOfHeights (lattices l.tables) (l.sum + rest);
}
