use Rattle.std.proofs.Common.{arith, get_or}
use Rattle.std.proofs.lemmas.List.{length-map}
use Rattle.xc_alg.specs.AnyTables.{lattice_in_any}
use Rattle.xc_product.proofs.Digits.{bottom_at, embed_code, embed_within}
use Rattle.xc_product.proofs.product.Product.embed.Goals as goal

pub overflow_mul-result : goal.overflow_mul-result
overflow_mul-result c = omega (
  arith,
  bottom_at c.args.self.now.tables c.args.part c.args.value c.get.result.now c.bottom-bottom.result (get_or c.args.self.now.weights c.args.part 0) c.args.self.now.bottom
      (omega (arith, length-map c.args.self.now.tables lattice_in_any)) c.get.ensures c.bottom-bottom.ensures (c.args.self.now.holds.weighted c.args.part (omega (arith, length-map c.args.self.now.tables lattice_in_any))) c.args.self.now.holds.bottom_is,
)

pub overflow_sub-result : goal.overflow_sub-result
overflow_sub-result c = bottom_at c.args.self.now.tables c.args.part c.args.value c.get.result.now c.bottom-bottom.result (get_or c.args.self.now.weights c.args.part 0) c.args.self.now.bottom
    (omega (arith, length-map c.args.self.now.tables lattice_in_any)) c.get.ensures c.bottom-bottom.ensures (c.args.self.now.holds.weighted c.args.part (omega (arith, length-map c.args.self.now.tables lattice_in_any))) c.args.self.now.holds.bottom_is

pub overflow_mul-result-2 : goal.overflow_mul-result-2
overflow_mul-result-2 c = omega (
  arith,
  bottom_at c.args.self.now.tables c.args.part c.args.value c.get.result.now c.bottom-bottom.result (get_or c.args.self.now.weights c.args.part 0) c.args.self.now.bottom
      (omega (arith, length-map c.args.self.now.tables lattice_in_any)) c.get.ensures c.bottom-bottom.ensures (c.args.self.now.holds.weighted c.args.part (omega (arith, length-map c.args.self.now.tables lattice_in_any))) c.args.self.now.holds.bottom_is,
  embed_code c.args.self.now.tables c.args.part c.args.value c.get.result.now c.bottom-bottom.result (get_or c.args.self.now.weights c.args.part 0) c.args.self.now.bottom
      (omega (arith, length-map c.args.self.now.tables lattice_in_any)) c.get.ensures c.bottom-bottom.ensures (c.args.self.now.holds.weighted c.args.part (omega (arith, length-map c.args.self.now.tables lattice_in_any))) c.args.self.now.holds.bottom_is,
  embed_within c.args.self.now.tables c.args.part c.args.value c.get.result.now c.bottom-bottom.result (get_or c.args.self.now.weights c.args.part 0) c.args.self.now.bottom
      (omega (arith, length-map c.args.self.now.tables lattice_in_any)) c.get.ensures c.bottom-bottom.ensures (c.args.self.now.holds.weighted c.args.part (omega (arith, length-map c.args.self.now.tables lattice_in_any))) c.args.self.now.holds.bottom_is c.requires.value,
)

pub overflow_add-result : goal.overflow_add-result
overflow_add-result c = omega (
  arith,
  bottom_at c.args.self.now.tables c.args.part c.args.value c.get.result.now c.bottom-bottom.result (get_or c.args.self.now.weights c.args.part 0) c.args.self.now.bottom
      (omega (arith, length-map c.args.self.now.tables lattice_in_any)) c.get.ensures c.bottom-bottom.ensures (c.args.self.now.holds.weighted c.args.part (omega (arith, length-map c.args.self.now.tables lattice_in_any))) c.args.self.now.holds.bottom_is,
  embed_code c.args.self.now.tables c.args.part c.args.value c.get.result.now c.bottom-bottom.result (get_or c.args.self.now.weights c.args.part 0) c.args.self.now.bottom
      (omega (arith, length-map c.args.self.now.tables lattice_in_any)) c.get.ensures c.bottom-bottom.ensures (c.args.self.now.holds.weighted c.args.part (omega (arith, length-map c.args.self.now.tables lattice_in_any))) c.args.self.now.holds.bottom_is,
  embed_within c.args.self.now.tables c.args.part c.args.value c.get.result.now c.bottom-bottom.result (get_or c.args.self.now.weights c.args.part 0) c.args.self.now.bottom
      (omega (arith, length-map c.args.self.now.tables lattice_in_any)) c.get.ensures c.bottom-bottom.ensures (c.args.self.now.holds.weighted c.args.part (omega (arith, length-map c.args.self.now.tables lattice_in_any))) c.args.self.now.holds.bottom_is c.requires.value,
)

pub returns-clause-value : goal.returns-clause-value
returns-clause-value c = omega (
  arith,
  bottom_at c.args.self.now.tables c.args.part c.args.value c.get.result.now c.bottom-bottom.result (get_or c.args.self.now.weights c.args.part 0) c.args.self.now.bottom
      (omega (arith, length-map c.args.self.now.tables lattice_in_any)) c.get.ensures c.bottom-bottom.ensures (c.args.self.now.holds.weighted c.args.part (omega (arith, length-map c.args.self.now.tables lattice_in_any))) c.args.self.now.holds.bottom_is,
  embed_code c.args.self.now.tables c.args.part c.args.value c.get.result.now c.bottom-bottom.result (get_or c.args.self.now.weights c.args.part 0) c.args.self.now.bottom
      (omega (arith, length-map c.args.self.now.tables lattice_in_any)) c.get.ensures c.bottom-bottom.ensures (c.args.self.now.holds.weighted c.args.part (omega (arith, length-map c.args.self.now.tables lattice_in_any))) c.args.self.now.holds.bottom_is,
)

pub returns-clause-within : goal.returns-clause-within
returns-clause-within c = omega (
  arith,
  bottom_at c.args.self.now.tables c.args.part c.args.value c.get.result.now c.bottom-bottom.result (get_or c.args.self.now.weights c.args.part 0) c.args.self.now.bottom
      (omega (arith, length-map c.args.self.now.tables lattice_in_any)) c.get.ensures c.bottom-bottom.ensures (c.args.self.now.holds.weighted c.args.part (omega (arith, length-map c.args.self.now.tables lattice_in_any))) c.args.self.now.holds.bottom_is,
  embed_code c.args.self.now.tables c.args.part c.args.value c.get.result.now c.bottom-bottom.result (get_or c.args.self.now.weights c.args.part 0) c.args.self.now.bottom
      (omega (arith, length-map c.args.self.now.tables lattice_in_any)) c.get.ensures c.bottom-bottom.ensures (c.args.self.now.holds.weighted c.args.part (omega (arith, length-map c.args.self.now.tables lattice_in_any))) c.args.self.now.holds.bottom_is,
  embed_within c.args.self.now.tables c.args.part c.args.value c.get.result.now c.bottom-bottom.result (get_or c.args.self.now.weights c.args.part 0) c.args.self.now.bottom
      (omega (arith, length-map c.args.self.now.tables lattice_in_any)) c.get.ensures c.bottom-bottom.ensures (c.args.self.now.holds.weighted c.args.part (omega (arith, length-map c.args.self.now.tables lattice_in_any))) c.args.self.now.holds.bottom_is c.requires.value,
)
