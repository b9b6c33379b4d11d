use Rattle.std.proofs.Common.{arith}
use Rattle.xc_order.proofs.Heights.{levels_none, levels_more, steps_up_le, IsHeight-from_levels}
use Rattle.xc_order.proofs.order.Order.height.Goals as goal

pub loop-round-init : goal.loop-round-init
loop-round-init c = λ a a_in. levels_none 64 a

pub raised-levels-requires : goal.raised-levels-requires
raised-levels-requires c = λ b b_in.
    omega (arith, c.loop-round.invariant b b_in, steps_up_le c.args.self.now c.loop-round._round b, c.size-round-end.ensures.order.limit)

pub loop-round-preserved : goal.loop-round-preserved
loop-round-preserved c = levels_more _ _ _ _ c.loop-round.invariant c.raised-levels.ensures

pub returns : goal.returns
returns c = IsHeight-from_levels _ _ _ _ _ c.size-round-end.ensures.order c.requires (omega arith) c.loop-round.invariant cc
