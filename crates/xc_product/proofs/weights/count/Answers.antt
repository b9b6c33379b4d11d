use Rattle.std.proofs.Common.{◌≡◌, ℕ, ◌*◌, arith, ◌∙◌}
use Rattle.xc_product.specs.Parts.{lattices}
use Rattle.xc_product.proofs.Turns.{past_size}
use Rattle.xc_product.proofs.Sizes.{total_is, count_more, count_fits}
use Rattle.xc_product.proofs.weights.count.Goals as goal

count_all : (count one all : ℕ) → count * one ≡ all → one ≡ 1 → count ≡ all
count_all count one all h e = omega (arith, rw e at h)

pub loop-table-init : goal.loop-table-init
loop-table-init c = omega (arith, total_is (lattices c.args.tables.now))

pub overflow_mul-count : goal.overflow_mul-count
overflow_mul-count c =
    omega (
      arith,
      count_fits c.args.tables.now c.loop-table.table-index c.table-item.result (omega arith) c.table-item.is c.loop-table.count c.from-count.result
          (c.from-count.ensures ∙ c.size.ensures) c.requires c.loop-table.invariant,
    )

pub loop-table-preserved : goal.loop-table-preserved
loop-table-preserved c =
    count_more c.args.tables.now c.loop-table.table-index c.table-item.result (omega arith) c.table-item.is c.loop-table.count c.from-count.result
    (c.from-count.ensures ∙ c.size.ensures) c.loop-table.invariant

pub returns : goal.returns
returns c = omega (arith, count_all c.loop-table.count _ _ c.loop-table.invariant (past_size c.args.tables.now c.loop-table.table-index (omega arith)))
