use Rattle.xc_order.proofs.Heights.{alone_decides}
use Rattle.xc_order.proofs.order.Order.antisymmetric.Goals as goal

pub returns : goal.returns
returns c = rw c.each_is_alone.ensures (alone_decides c.args.self.now)
