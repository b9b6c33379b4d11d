use Rattle.std.proofs.Common.{List, ◌+◌, arith, sym, subst, ◌∙◌}
use Rattle.xc_alg.specs.AnyTables.{lattice_in_any}
use Rattle.xc_alg.proofs.Tables.{product_size, product_below}
use Rattle.xc_order.specs.declared.order.Pair.{Pair}
use Rattle.xc_product.specs.Heights.{OnRow}
use Rattle.xc_product.proofs.HeightSums.{row_more, row_skip}
use Rattle.xc_product.proofs.heights.push_pair.Goals as goal

pub le-requires : goal.le-requires
le-requires c = record { left = omega (arith, product_size (lattice_in_any c.args.table.now)); right = omega (arith, product_size (lattice_in_any c.args.table.now)) }

pub returns-in_ok-push : goal.returns-in_ok-push
returns-in_ok-push c =
    subst (λ (pairs : List Pair). OnRow (lattice_in_any c.args.table.now) c.args.low (c.args.high + 1) pairs) (sym c.in_ok-push.ensures.ok)
    (row_more (lattice_in_any c.args.table.now) c.args.low c.args.high c.args.pairs.now c.requires.pairs c.requires.low c.requires.high
    (sym (product_below (lattice_in_any c.args.table.now) c.args.low c.args.high) ∙ (sym c.le.ensures ∙ c.if-le.true)))

pub returns-else-le : goal.returns-else-le
returns-else-le c =
    row_skip (lattice_in_any c.args.table.now) c.args.low c.args.high c.args.pairs.now c.requires.pairs
    (sym (product_below (lattice_in_any c.args.table.now) c.args.low c.args.high) ∙ (sym c.le.ensures ∙ c.if-le.false))
