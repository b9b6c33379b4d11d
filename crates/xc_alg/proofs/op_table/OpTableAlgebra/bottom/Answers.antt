use Rattle.std.proofs.Common.{arith}
use Rattle.xc_alg.proofs.Tables.{meet-lt, meet_more, below_all-bottom}
use Rattle.xc_alg.proofs.op_table.OpTableAlgebra.bottom.Goals as goal

pub loop-a-preserved : goal.loop-a-preserved
loop-a-preserved g c =
    rw c.entry_at-least.ensures
    (record {
      in_range = meet-lt c.args.self.now.tells c.loop-a.least c.loop-a.a c.loop-a.invariant.in_range c.loop-a-test.true;
      below = λ k hk. meet_more c.args.self.now.tells c.loop-a.least c.loop-a.a k c.loop-a.invariant.in_range c.loop-a-test.true c.loop-a.invariant.below hk;
    })

pub returns : goal.returns
returns g c = below_all-bottom c.args.self.now.tells c.loop-a.least c.loop-a.invariant.in_range (λ k hk. c.loop-a.invariant.below k (omega arith))
