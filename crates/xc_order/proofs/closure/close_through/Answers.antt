use Rattle.std.proofs.Common.{arith}
use Rattle.xc_order.proofs.Rows.{map_in_place}
use Rattle.xc_order.proofs.closure.close_through.Goals as goal

pub loop-row-preserved : goal.loop-row-preserved
loop-row-preserved c = rw c.joined_row.ensures (map_in_place _ _ _ _ (omega arith) c.loop-row.auto.rows c.loop-row.invariant.0 c.loop-row.invariant.1)
