use Rattle.std.proofs.Common.{arith}
use Rattle.xc_alg.specs.Products.{product}
use Rattle.xc_base.specs.Names.{place_of}
use Rattle.xc_lattice.specs.Values.{value_of as lattice_of}
use Rattle.xc_merged.proofs.Tabling.{stutter_more}
use Rattle.xc_merged.proofs.stuttering.stutter_of.Goals as goal

pub loop-i-preserved : goal.loop-i-preserved
loop-i-preserved g c =
    record {
      below = c.with_stutter-sum.ensures.below;
      sum =
          stutter_more (product (g.A.Algebra.parts c.args.algebra.now)) (place_of (lattice_of c.args.lattice.now).names) c.args.lines.now c.args.number _ c.loop-i.i c.index-lines-i.result c.loop-i.sum _
          (omega arith) (omega arith) c.index-lines-i.is c.loop-i.invariant.sum c.with_stutter-sum.ensures.sum;
    }
