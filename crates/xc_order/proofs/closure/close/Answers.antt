use Rattle.std.proofs.Common.{arith}
use Rattle.xc_order.proofs.Rows.{closes_more}
use Rattle.xc_order.proofs.closure.close.Goals as goal

pub loop-k-preserved : goal.loop-k-preserved
loop-k-preserved c = rw c.close_through.ensures (closes_more _ _ _ _ c.requires.limit (omega arith) c.loop-k.invariant)
