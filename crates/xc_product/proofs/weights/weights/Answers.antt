use Rattle.std.proofs.Common.{arith, ◌≢◌, ◌<◌, length, get_or-set_same, get_or-set_other, length-set, below_more, ◌∙◌}
use Rattle.xc_product.proofs.Sizes.{weight_less}
use Rattle.xc_product.proofs.weights.weights.Goals as goal

pub loop-part-preserved : goal.loop-part-preserved
loop-part-preserved c =
    let less = weight_less c.args.tables.now c.loop-part.part c.index-tables-part.result (omega arith) c.index-tables-part.is 0 c.size-rest.result c.size-rest.ensures c.loop-part.rest c.loop-part.invariant.rest in
    record {
      long = length-set _ _ _ ∙ c.loop-part.invariant.long;
      rest = less;
      weighted =
          below_more _ _ (λ k h. let other : k ≢ c.loop-part.part = omega arith in rw get_or-set_other (c.loop-part.invariant.weighted k h))
          (let within : c.loop-part.part < length c.loop-part.weights = omega (arith, c.loop-part.invariant.long) in rw get_or-set_same less);
    }
