use Rattle.std.proofs.Common.{slice_index}
use Rattle.xc_alg.specs.Products.{product}
use Rattle.xc_plain.proofs.Joining.{few_step}
use Rattle.xc_plain.proofs.next.join_few.Goals as goal

pub loop-place-preserved : goal.loop-place-preserved
loop-place-preserved g c = record {
  range = c.with_successor-sum.ensures.range;
  value = few_step (product (g.A.Algebra.parts c.args.algebra.now)) (slice_index c.args.codes.now) c.args.successors.now _ _ _ _ c.loop-place-test.true c.with_successor-sum.ensures.value c.loop-place.invariant.value;
}
