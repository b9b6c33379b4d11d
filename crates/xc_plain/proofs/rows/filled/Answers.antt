use Rattle.std.proofs.Common.{refl}
use Rattle.xc_fixpoint.proofs.Lists.{values_pushed}
use Rattle.xc_plain.proofs.Joining.{row_pushed}
use Rattle.xc_plain.proofs.rows.filled.Goals as goal

pub loop-state-preserved : goal.loop-state-preserved
loop-state-preserved g c = record {
  range = row_pushed _ _ _ _ _ c.loop-state.invariant.range c.requires c.in_ok-push.ensures.ok;
  value = values_pushed _ _ _ _ _ c.loop-state.invariant.value refl c.in_ok-push.ensures.ok;
}
