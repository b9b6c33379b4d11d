use Rattle.xc_plain.proofs.Telling.{rounds_in_parts, rounds_few}
use Rattle.xc_plain.proofs.node.fixpoint_rows.Goals as goal

pub returns-clause-few : goal.returns-clause-few
returns-clause-few g c =
    rounds_few _ _ c.args.rows.now _ c.args.form c.args.left.now c.args.right.now _ (g.met.M.Framed.is_frame c.args.model.now) c.product.ensures (g.met.M.Ring.Algebra.limited c.product.result.now) c.requires.few c.requires.rows c.requires.left c.requires.right c.in_ok-iterates.ensures

pub returns-clause-rounds : goal.returns-clause-rounds
returns-clause-rounds g c = rounds_in_parts _ _ _ _ _ _ _ _ _ _ c.product.ensures c.requires.rows.count c.in_ok-iterates.ensures
