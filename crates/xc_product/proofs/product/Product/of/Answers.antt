use Rattle.std.proofs.Common.{List, arith, sym, subst, ◌∙◌}
use Rattle.xc_alg.specs.declared.any_table.AnyTable.{AnyTable}
use Rattle.xc_product.specs.Parts.{lattices}
use Rattle.xc_product.specs.Heights.{IsSumOfHeights}
use Rattle.xc_product.proofs.Sizes.{total_is, holds_of_found}
use Rattle.xc_product.proofs.product.Product.of.Goals as goal

pub weights-weights-requires-clause-count : goal.weights-weights-requires-clause-count
weights-weights-requires-clause-count c = c.count-size.ensures ∙ sym (total_is (lattices c.as_slice-tables.result.now))

pub code_of_none-bottom-requires-clause-limit : goal.code_of_none-bottom-requires-clause-limit
code_of_none-bottom-requires-clause-limit c = omega (arith, c.count-size.ensures, total_is (lattices c.as_slice-tables.result.now))

pub code_of_none-top-requires-clause-limit : goal.code_of_none-top-requires-clause-limit
code_of_none-top-requires-clause-limit c = omega (arith, c.count-size.ensures, total_is (lattices c.as_slice-tables.result.now))

pub invariant_of-result : goal.invariant_of-result
invariant_of-result c =
    record {
      holds =
          holds_of_found c.args.parts c.as_slice-tables.result.now c.weights-weights.result c.count-size.result c.code_of_none-bottom.result c.code_of_none-top.result
          c.as_slice-tables.ensures c.requires.several c.requires.few c.count-size.ensures (omega arith) c.weights-weights.ensures
          c.code_of_none-bottom.ensures c.code_of_none-top.ensures;
      summed = ∣ subst (λ (tables : List AnyTable). IsSumOfHeights (lattices tables) c.in_ok-height.height) c.as_slice-tables.ensures c.in_ok-height.ensures ∣₁;
    }
