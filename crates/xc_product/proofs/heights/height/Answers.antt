use Rattle.std.proofs.Common.{Bool, List, sym, subst}
use Rattle.xc_theory.specs.Orders.{IsAntisymmetric}
use Rattle.xc_theory.specs.Chains.{IsHeight}
use Rattle.xc_alg.specs.AnyTables.{lattice_in_any}
use Rattle.xc_product.specs.Lawful.{lawful_part}
use Rattle.xc_product.proofs.HeightSums.{pairs-are_below, spanned_is, antisymmetric_part, height_small}
use Rattle.xc_product.proofs.heights.height.Goals as goal

pub of-requires-clause-pairs : goal.of-requires-clause-pairs
of-requires-clause-pairs c = pairs-are_below (lattice_in_any c.args.table.now) c.size.result c.in_ok-pairs.pairs c.in_ok-pairs.ensures.sound c.size.ensures.size

pub height-requires : goal.height-requires
height-requires c =
    subst (λ (order : List (List Bool)). IsAntisymmetric order)
    (sym (spanned_is (lattice_in_any c.args.table.now) (lawful_part c.args.table.now).0 c.in_ok-pairs.pairs c.size.result c.in_ok-order.order c.in_ok-pairs.ensures c.size.ensures.size c.in_ok-order.ensures))
    (antisymmetric_part c.args.table.now)

pub returns-clause-height : goal.returns-clause-height
returns-clause-height c =
    subst (λ (order : List (List Bool)). IsHeight order c.height.result)
    (spanned_is (lattice_in_any c.args.table.now) (lawful_part c.args.table.now).0 c.in_ok-pairs.pairs c.size.result c.in_ok-order.order c.in_ok-pairs.ensures c.size.ensures.size c.in_ok-order.ensures)
    c.height.ensures

pub returns-clause-small : goal.returns-clause-small
returns-clause-small c =
    height_small c.args.table.now c.height.result
    (subst (λ (order : List (List Bool)). IsHeight order c.height.result)
    (spanned_is (lattice_in_any c.args.table.now) (lawful_part c.args.table.now).0 c.in_ok-pairs.pairs c.size.result c.in_ok-order.order c.in_ok-pairs.ensures c.size.ensures.size c.in_ok-order.ensures)
    c.height.ensures)
