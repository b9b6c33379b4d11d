use Rattle.std.proofs.Common.{◌≡◌, Bool, true, false, ◌&&◌, arith, sym, ◌∙◌, get_or}
use Rattle.xc_product.proofs.Turns.{digit_in, below_turn, past_below}
use Rattle.xc_product.proofs.algebra.ProductAlgebra.le.Goals as goal

-- a test that is false, and one that is true, of two
both_false : (x y z : Bool) → x ≡ false → (x && y) ≡ z → false ≡ z
both_false x y z h e = grind arith

both_true : (x y z : Bool) → x ≡ true → (x && y) ≡ z → y ≡ z
both_true x y z h e = grind arith

pub le-requires : goal.le-requires
le-requires c =
    record {
      left = digit_in c.args.self.now.tables c.loop-part.part c.get.result.now (omega arith) c.get.ensures c.loop-part.left c.split-first.result.digit c.loop-part.invariant.left_in c.split-first.ensures.digit;
      right = digit_in c.args.self.now.tables c.loop-part.part c.get.result.now (omega arith) c.get.ensures c.loop-part.right c.split-second.result.digit c.loop-part.invariant.right_in c.split-second.ensures.digit;
    }

pub returns-then-not-le : goal.returns-then-not-le
returns-then-not-le c =
    both_false _ _ _ c.if-not-le.true
    (below_turn c.args.self.now.tables c.loop-part.part c.get.result.now (omega arith) c.get.ensures (get_or c.args.self.now.weights c.loop-part.part 0) (c.args.self.now.holds.weighted c.loop-part.part (omega arith))
    c.loop-part.left c.split-first.result.digit c.split-first.result.rest c.split-first.ensures.digit c.split-first.ensures.rest
    c.loop-part.right c.split-second.result.digit c.split-second.result.rest c.split-second.ensures.digit c.split-second.ensures.rest c.le.result c.le.ensures) ∙ c.loop-part.invariant.below

pub loop-part-preserved : goal.loop-part-preserved
loop-part-preserved c =
    record {
      left_in = c.split-first.ensures.within;
      right_in = c.split-second.ensures.within;
      below = both_true _ _ _ c.if-not-le.false
          (below_turn c.args.self.now.tables c.loop-part.part c.get.result.now (omega arith) c.get.ensures (get_or c.args.self.now.weights c.loop-part.part 0) (c.args.self.now.holds.weighted c.loop-part.part (omega arith))
          c.loop-part.left c.split-first.result.digit c.split-first.result.rest c.split-first.ensures.digit c.split-first.ensures.rest
          c.loop-part.right c.split-second.result.digit c.split-second.result.rest c.split-second.ensures.digit c.split-second.ensures.rest c.le.result c.le.ensures) ∙ c.loop-part.invariant.below;
    }

pub returns : goal.returns
returns c = sym (past_below c.args.self.now.tables c.loop-part.part (omega arith) c.loop-part.left c.loop-part.right) ∙ c.loop-part.invariant.below
