use Rattle.std.proofs.Common.{arith}
use Rattle.xc_alg.proofs.Tables.{join-lt, join_more, above_all-top}
use Rattle.xc_alg.proofs.op_table.OpTableAlgebra.top.Goals as goal

pub loop-a-preserved : goal.loop-a-preserved
loop-a-preserved g c =
    rw c.entry_at-greatest.ensures
    (record {
      in_range = join-lt c.args.self.now.tells c.loop-a.greatest c.loop-a.a c.loop-a.invariant.in_range c.loop-a-test.true;
      above = λ k hk. join_more c.args.self.now.tells c.loop-a.greatest c.loop-a.a k c.loop-a.invariant.in_range c.loop-a-test.true c.loop-a.invariant.above hk;
    })

pub returns : goal.returns
returns g c = above_all-top c.args.self.now.tells c.loop-a.greatest c.loop-a.invariant.in_range (λ k hk. c.loop-a.invariant.above k (omega arith))
