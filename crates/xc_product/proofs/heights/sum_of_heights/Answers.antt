use Rattle.std.proofs.Common.{◌≡◌, ℕ, ◌+◌, arith, subst}
use Rattle.xc_product.specs.Parts.{lattices}
use Rattle.xc_product.specs.Heights.{IsSumOfHeights}
use Rattle.xc_product.proofs.HeightSums.{heights_more, heights_past}
use Rattle.xc_product.proofs.heights.sum_of_heights.Goals as goal

pub loop-table-preserved : goal.loop-table-preserved
loop-table-preserved c =
    record {
      small = omega (arith, c.in_ok-sum.ensures.small);
      summed = λ rest k.
          let same : c.loop-table.sum + (c.in_ok-sum.field-0 + rest) ≡ c.loop-table.sum + c.in_ok-sum.field-0 + rest = omega arith in
          subst (λ (n : ℕ). IsSumOfHeights (lattices c.args.tables.now) n) same
          (c.loop-table.invariant.summed (c.in_ok-sum.field-0 + rest)
          (heights_more c.args.tables.now c.loop-table.table-index c.table-item.result c.in_ok-sum.field-0 rest (omega arith) c.table-item.is c.in_ok-sum.ensures.height k));
    }

pub returns : goal.returns
returns c =
    let same : c.loop-table.sum + 0 ≡ c.loop-table.sum = omega arith in
    subst (λ (n : ℕ). IsSumOfHeights (lattices c.args.tables.now) n) same (c.loop-table.invariant.summed 0 (heights_past c.args.tables.now c.loop-table.table-index (omega arith)))
