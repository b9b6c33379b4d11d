use Rattle.std.proofs.Common.{length, ap, ◌∙◌, arith}
use Rattle.std.proofs.lemmas.List.{length_push}
use Rattle.xc_alg.specs.Products.{product}
use Rattle.xc_plain.proofs.Keeping.{rows_kept}
use Rattle.xc_plain.proofs.steps.rows_of.Goals as goal

pub loop-state-preserved : goal.loop-state-preserved
loop-state-preserved g c = record {
  count = omega (arith, ap length c.in_ok-push.ensures.ok ∙ length_push _ _, c.loop-state.invariant.count);
  each = rows_kept (product (g.M.Framed.frame c.args.model.now).parts) _ _ (g.M.Framed.frame c.args.model.now).relation _ _ _ c.loop-state.invariant.count c.loop-state.invariant.each c.in_ok-row_of.ensures c.in_ok-push.ensures.ok;
}
