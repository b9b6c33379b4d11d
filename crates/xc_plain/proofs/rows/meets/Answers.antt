use Rattle.std.proofs.Common.{◌<◌, ℕ, sym, subst}
use Rattle.xc_alg.specs.Products.{product}
use Rattle.xc_fixpoint.proofs.Lists.{values_pushed}
use Rattle.xc_plain.proofs.Joining.{row_pushed}
use Rattle.xc_plain.proofs.rows.meets.Goals as goal

pub loop-state-preserved : goal.loop-state-preserved
loop-state-preserved g c = record {
  range = row_pushed _ _ _ _ _ c.loop-state.invariant.range (subst (λ (x : ℕ). x < (product (g.A.Algebra.parts c.args.algebra.now)).size) (sym c.meet.ensures) ((g.met.A.Algebra.laws c.args.algebra.now).meet_in_range _ _ (c.requires.left.range _ c.loop-state-test.true) (c.requires.right.range _ c.loop-state-test.true))) c.in_ok-push.ensures.ok;
  value = values_pushed _ _ _ _ _ c.loop-state.invariant.value c.meet.ensures c.in_ok-push.ensures.ok;
}
