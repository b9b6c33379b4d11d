use Rattle.std.proofs.Common.{arith, get_or, drop}
use Rattle.xc_product.proofs.Digits.{code_past, code_turn, code_within, digits-length}
use Rattle.xc_product.proofs.product.Product.code.Goals as goal

pub bounds-digits-part : goal.bounds-digits-part
bounds-digits-part c = omega (arith, digits-length c.args.self.now.tables c.args.digits.now c.requires)

pub with_digit-code-requires : goal.with_digit-code-requires
with_digit-code-requires c =
    omega (
      arith,
      c.loop-part.invariant,
      code_turn c.args.self.now.tables c.loop-part.part (get_or c.args.self.now.weights c.loop-part.part 0) c.args.digits.now (omega arith) (c.args.self.now.holds.weighted c.loop-part.part (omega arith)) (omega (arith, digits-length c.args.self.now.tables c.args.digits.now c.requires)),
      code_within c.args.self.now.tables c.args.digits.now c.requires,
    )

pub loop-part-preserved : goal.loop-part-preserved
loop-part-preserved c =
    omega (arith, c.loop-part.invariant, code_turn c.args.self.now.tables c.loop-part.part (get_or c.args.self.now.weights c.loop-part.part 0) c.args.digits.now (omega arith) (c.args.self.now.holds.weighted c.loop-part.part (omega arith)) (omega (arith, digits-length c.args.self.now.tables c.args.digits.now c.requires)))

pub returns : goal.returns
returns c =
    let done = code_past c.args.self.now.tables c.loop-part.part (drop c.loop-part.part c.args.digits.now) (omega arith) in
    record {
      value = omega (arith, c.loop-part.invariant, done);
      within = omega (arith, c.loop-part.invariant, done, code_within c.args.self.now.tables c.args.digits.now c.requires);
    }
