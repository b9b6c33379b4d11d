use Rattle.std.proofs.Common.{◌<◌, ℕ, sym, subst, arith}
use Rattle.xc_alg.specs.Products.{product}
use Rattle.xc_fixpoint.proofs.Lists.{values_pushed}
use Rattle.xc_plain.proofs.Joining.{row_pushed}
use Rattle.xc_plain.proofs.steps.values_from.Goals as goal

pub loop-to-preserved : goal.loop-to-preserved
loop-to-preserved g c =
    let here : c.loop-to.to < (g.M.Framed.frame c.args.model.now).states = omega (arith, c.states-to-end.ensures, c.loop-to-test.true) in
    record {
      range = row_pushed _ _ _ _ _ c.loop-to.invariant.range
          (subst (λ (x : ℕ). x < (product (g.M.Framed.frame c.args.model.now).parts).size) (sym c.step.ensures) ((g.met.M.Framed.is_frame c.args.model.now).steps _ _ c.requires here)) c.in_ok-push.ensures.ok;
      value = values_pushed _ _ _ _ _ c.loop-to.invariant.value c.step.ensures c.in_ok-push.ensures.ok;
    }
