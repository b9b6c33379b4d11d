use Rattle.xc_fixpoint.proofs.Lists.{values_pushed}
use Rattle.std.proofs.Common.{slice_index}
use Rattle.xc_alg.specs.Products.{product}
use Rattle.xc_plain.proofs.Joining.{joined_at, row_pushed}
use Rattle.xc_plain.proofs.next.next_row.Goals as goal

pub loop-state-preserved : goal.loop-state-preserved
loop-state-preserved g c = record {
  range = row_pushed _ _ _ _ _ c.loop-state.invariant.range c.join_row.ensures.range c.in_ok-push.ensures.ok;
  value = values_pushed _ _ _ _ _ c.loop-state.invariant.value (joined_at (product (g.A.Algebra.parts c.args.algebra.now)) c.args.rows.now (slice_index c.args.codes.now) _ _ _ c.loop-state-test.true c.index-rows-state.is c.join_row.ensures.value) c.in_ok-push.ensures.ok;
}
