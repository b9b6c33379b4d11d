use Rattle.std.proofs.Common.{arith, refl}
use Rattle.xc_alg.specs.Products.{product}
use Rattle.xc_forms.specs.Variables.{sizes_of}
use Rattle.xc_merged.specs.Joins.{leads_to}
use Rattle.xc_merged.proofs.Joining.{item_more}
use Rattle.xc_merged.proofs.joins.step_join.Goals as goal

pub loop-i-preserved : goal.loop-i-preserved
loop-i-preserved g c =
    record {
      below = c.joined_if-sum.ensures.below;
      sum =
          item_more (product (g.A.Algebra.parts c.args.algebra.now)) c.args.base (leads_to (sizes_of c.args.vars.now) c.args.from.now c.args.to.now) c.args.commands.now c.args.weights.now _ c.loop-i.i c.index-commands-i.result _ c.loop-i.sum _ c.leads-passes.result
          (omega arith) (omega arith) c.requires.count c.index-commands-i.is refl c.leads-passes.ensures c.loop-i.invariant.sum c.joined_if-sum.ensures.sum;
    }
