use Rattle.std.proofs.Common.{arith, get_or}
use Rattle.xc_product.proofs.Turns.{digit_in, bound_turn, past_bound, bound_in_range}
use Rattle.xc_product.proofs.product.Product.bound_of_codes.Goals as goal

pub bound_in_part-digit-requires : goal.bound_in_part-digit-requires
bound_in_part-digit-requires c =
    record {
      left = digit_in c.args.self.now.tables c.loop-part.part c.get.result.now (omega arith) c.get.ensures c.loop-part.left c.split-first.result.digit c.loop-part.invariant.left_in c.split-first.ensures.digit;
      right = digit_in c.args.self.now.tables c.loop-part.part c.get.result.now (omega arith) c.get.ensures c.loop-part.right c.split-second.result.digit c.loop-part.invariant.right_in c.split-second.ensures.digit;
    }

pub with_digit-code-requires : goal.with_digit-code-requires
with_digit-code-requires c =
    omega (
      arith,
      bound_turn c.args.self.now.tables c.loop-part.part c.get.result.now (omega arith) c.get.ensures (get_or c.args.self.now.weights c.loop-part.part 0) (c.args.self.now.holds.weighted c.loop-part.part (omega arith))
          c.loop-part.left c.split-first.result.digit c.split-first.result.rest c.split-first.ensures.digit c.split-first.ensures.rest
          c.loop-part.right c.split-second.result.digit c.split-second.result.rest c.split-second.ensures.digit c.split-second.ensures.rest c.args.which c.bound_in_part-digit.result c.bound_in_part-digit.ensures,
      bound_in_range c.args.which c.args.self.now.tables c.args.a c.args.b c.requires.left c.requires.right,
    )

pub loop-part-preserved : goal.loop-part-preserved
loop-part-preserved c =
    record {
      left_in = c.split-first.ensures.within;
      right_in = c.split-second.ensures.within;
      bounded = omega (
        arith,
        bound_turn c.args.self.now.tables c.loop-part.part c.get.result.now (omega arith) c.get.ensures (get_or c.args.self.now.weights c.loop-part.part 0) (c.args.self.now.holds.weighted c.loop-part.part (omega arith))
            c.loop-part.left c.split-first.result.digit c.split-first.result.rest c.split-first.ensures.digit c.split-first.ensures.rest
            c.loop-part.right c.split-second.result.digit c.split-second.result.rest c.split-second.ensures.digit c.split-second.ensures.rest c.args.which c.bound_in_part-digit.result c.bound_in_part-digit.ensures,
      );
    }

pub returns : goal.returns
returns c = omega (arith, c.loop-part.invariant.bounded, past_bound c.args.self.now.tables c.loop-part.part (omega arith) c.args.which c.loop-part.left c.loop-part.right)
