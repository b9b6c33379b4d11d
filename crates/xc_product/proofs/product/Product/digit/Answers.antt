use Rattle.std.proofs.Common.{arith}
use Rattle.std.proofs.lemmas.List.{length-map}
use Rattle.xc_alg.specs.AnyTables.{lattice_in_any}
use Rattle.xc_product.proofs.Sizes.{small_sizes}
use Rattle.xc_product.proofs.Digits.{digits_next, digit_here, digit_within}
use Rattle.xc_product.proofs.product.Product.digit.Goals as goal

pub loop-earlier-preserved : goal.loop-earlier-preserved
loop-earlier-preserved c =
    record {
      rest_in = c.split-rest.ensures.within;
      digits_left =
          digits_next c.args.self.now.tables c.loop-earlier.earlier c.args.code c.loop-earlier.rest (omega (arith, length-map c.args.self.now.tables lattice_in_any)) c.loop-earlier.invariant.digits_left
          c.split-rest.result.rest c.split-rest.ensures.rest;
    }

pub overflow_cast-result : goal.overflow_cast-result
overflow_cast-result c =
    omega (
      arith,
      digit_here c.args.self.now.tables c.loop-earlier.earlier c.args.code c.loop-earlier.rest (omega (arith, length-map c.args.self.now.tables lattice_in_any)) c.loop-earlier.invariant.digits_left c.args.part c.split.result.digit (omega arith) c.split.ensures.digit,
      digit_within c.args.self.now.tables c.args.code c.args.part c.requires.code (omega (arith, length-map c.args.self.now.tables lattice_in_any)),
      small_sizes c.args.self.now.tables c.args.part,
    )

pub returns-clause-value : goal.returns-clause-value
returns-clause-value c =
    digit_here c.args.self.now.tables c.loop-earlier.earlier c.args.code c.loop-earlier.rest (omega (arith, length-map c.args.self.now.tables lattice_in_any)) c.loop-earlier.invariant.digits_left c.args.part c.split.result.digit (omega arith) c.split.ensures.digit

pub returns-clause-within : goal.returns-clause-within
returns-clause-within c =
    omega (
      arith,
      digit_here c.args.self.now.tables c.loop-earlier.earlier c.args.code c.loop-earlier.rest (omega (arith, length-map c.args.self.now.tables lattice_in_any)) c.loop-earlier.invariant.digits_left c.args.part c.split.result.digit (omega arith) c.split.ensures.digit,
      digit_within c.args.self.now.tables c.args.code c.args.part c.requires.code (omega (arith, length-map c.args.self.now.tables lattice_in_any)),
    )
