use Rattle.std.proofs.Common.{arith, get_or}
use Rattle.xc_product.proofs.Turns.{turn_of_none, past_of_none, none_in_range}
use Rattle.xc_product.proofs.bounds.code_of_none.Goals as goal

pub with_digit-code-requires : goal.with_digit-code-requires
with_digit-code-requires c =
    omega (
      arith,
      turn_of_none c.args.tables.now c.loop-part.part c.index-tables-part.result (omega arith) c.index-tables-part.is
          (get_or c.args.weights.now c.loop-part.part 0) (c.requires.weights c.loop-part.part (omega arith)) c.args.which c.none_in_part.result c.none_in_part.ensures,
      none_in_range c.args.which c.args.tables.now,
    )

pub loop-part-preserved : goal.loop-part-preserved
loop-part-preserved c =
    omega (
      arith,
      turn_of_none c.args.tables.now c.loop-part.part c.index-tables-part.result (omega arith) c.index-tables-part.is
          (get_or c.args.weights.now c.loop-part.part 0) (c.requires.weights c.loop-part.part (omega arith)) c.args.which c.none_in_part.result c.none_in_part.ensures,
    )

pub returns : goal.returns
returns c = omega (arith, c.loop-part.invariant, past_of_none c.args.tables.now c.loop-part.part (omega arith) c.args.which)
