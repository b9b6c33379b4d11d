use Rattle.std.proofs.Common.{arith}
use Rattle.xc_order.proofs.Rows.{pairs_more}
use Rattle.xc_order.proofs.closure.add_pairs.Goals as goal

pub loop-p-preserved : goal.loop-p-preserved
loop-p-preserved c = pairs_more _ _ _ _ _ c.requires.limit c.requires.pairs (omega arith) c.loop-p.invariant
