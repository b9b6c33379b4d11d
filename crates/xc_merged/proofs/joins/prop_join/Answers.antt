use Rattle.std.proofs.Common.{arith, refl}
use Rattle.xc_alg.specs.Products.{product}
use Rattle.xc_merged.specs.Joins.{holds_there}
use Rattle.xc_merged.proofs.Joining.{counted_more}
use Rattle.xc_merged.proofs.joins.prop_join.Goals as goal

pub loop-i-preserved : goal.loop-i-preserved
loop-i-preserved g c =
    record {
      below = c.joined_if-sum.ensures.below;
      sum =
          counted_more (product (g.A.Algebra.parts c.args.algebra.now)) c.args.base (holds_there c.args.from.now) c.args.lines.now c.args.counts.now c.args.marks.now _ c.loop-i.i c.index-lines-i.result _ c.loop-i.sum _ c.tells-passes.result
          (omega arith) (omega arith) c.requires.count c.requires.counts c.index-lines-i.is refl c.tells-passes.ensures c.loop-i.invariant.sum c.joined_if-sum.ensures.sum;
    }
