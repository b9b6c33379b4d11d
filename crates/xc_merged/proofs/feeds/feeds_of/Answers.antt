use Rattle.std.proofs.Common.{arith}
use Rattle.xc_sigmap.specs.Maps.{value_of as map_of}
use Rattle.xc_merged.proofs.Tabling.{feeds_more}
use Rattle.xc_merged.proofs.feeds.feeds_of.Goals as goal

pub loop-x-preserved : goal.loop-x-preserved
loop-x-preserved c =
    rw c.in_ok-push.ensures.ok (feeds_more (map_of c.args.sigmap.now) c.args.number c.args.vars.now c.loop-x.feeds c.loop-x.x c.get.result.now c.feed_of.result (omega arith) c.get.ensures c.loop-x.invariant c.feed_of.ensures)
