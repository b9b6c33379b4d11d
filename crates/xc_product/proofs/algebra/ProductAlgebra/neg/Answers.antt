use Rattle.std.proofs.Common.{arith, get_or}
use Rattle.xc_product.specs.Lawful.{lawful_product}
use Rattle.xc_product.proofs.Turns.{digit_in, negation_turn, past_negation}
use Rattle.xc_product.proofs.algebra.ProductAlgebra.neg.Goals as goal

pub neg-digit-requires : goal.neg-digit-requires
neg-digit-requires c = digit_in c.args.self.now.tables c.loop-part.part c.get.result.now (omega arith) c.get.ensures c.loop-part.code c.split-split.result.digit c.loop-part.invariant.code_in c.split-split.ensures.digit

pub with_digit-negated-requires : goal.with_digit-negated-requires
with_digit-negated-requires c =
    omega (
      arith,
      negation_turn c.args.self.now.tables c.loop-part.part c.get.result.now (omega arith) c.get.ensures (get_or c.args.self.now.weights c.loop-part.part 0) (c.args.self.now.holds.weighted c.loop-part.part (omega arith))
          c.loop-part.code c.split-split.result.digit c.split-split.result.rest c.split-split.ensures.digit c.split-split.ensures.rest c.neg-digit.result c.neg-digit.ensures,
      (lawful_product c.args.self.now.tables).negation_in_range c.args.a c.requires,
    )

pub loop-part-preserved : goal.loop-part-preserved
loop-part-preserved c =
    record {
      code_in = c.split-split.ensures.within;
      negated = omega (
        arith,
        negation_turn c.args.self.now.tables c.loop-part.part c.get.result.now (omega arith) c.get.ensures (get_or c.args.self.now.weights c.loop-part.part 0) (c.args.self.now.holds.weighted c.loop-part.part (omega arith))
            c.loop-part.code c.split-split.result.digit c.split-split.result.rest c.split-split.ensures.digit c.split-split.ensures.rest c.neg-digit.result c.neg-digit.ensures,
      );
    }

pub returns : goal.returns
returns c = omega (arith, c.loop-part.invariant.negated, past_negation c.args.self.now.tables c.loop-part.part (omega arith) c.loop-part.code)
