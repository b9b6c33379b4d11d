use Rattle.std.proofs.Common.{length, ap, ◌∙◌, arith}
use Rattle.std.proofs.lemmas.List.{length_push}
use Rattle.xc_plain.proofs.Tabling.{told_more}
use Rattle.xc_plain.proofs.engine.all_rows.Goals as goal

pub loop-kind-preserved : goal.loop-kind-preserved
loop-kind-preserved g c = record {
  count = omega (arith, ap length c.in_ok-push.ensures.ok ∙ length_push c.loop-kind.table c.in_ok-new.new, c.loop-kind.invariant.count);
  told = told_more _ _ _ _ _ _ _ c.requires.ordered c.loop-kind.invariant.told c.loop-kind.invariant.count c.as_slice.ensures c.in_ok-new.ensures c.in_ok-push.ensures.ok;
}
