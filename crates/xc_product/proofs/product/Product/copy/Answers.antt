use Rattle.std.proofs.Common.{List, sym, ap, subst, ◌∙◌}
use Rattle.xc_theory.specs.Lattices.{LatticeData}
use Rattle.xc_alg.specs.declared.any_table.AnyTable.{AnyTable}
use Rattle.xc_product.specs.Parts.{lattices}
use Rattle.xc_product.specs.Heights.{IsSumOfHeights}
use Rattle.xc_product.proofs.Sizes.{holds_of_copy}
use Rattle.xc_product.proofs.product.Product.copy.Goals as goal

pub invariant_of-result : goal.invariant_of-result
invariant_of-result c =
    record {
      holds = holds_of_copy c.in_ok-tables.tables c.args.self.now.tables c.args.self.now.weights c.args.self.now.size c.args.self.now.bottom c.args.self.now.top (c.in_ok-tables.ensures.same ∙ ap (λ (tables : List AnyTable). lattices tables) c.as_slice.ensures) c.args.self.now.holds;
      summed = subst (λ (parts : List LatticeData). ∥ IsSumOfHeights parts c.args.self.now.height ∥₁) (sym (c.in_ok-tables.ensures.same ∙ ap (λ (tables : List AnyTable). lattices tables) c.as_slice.ensures)) c.args.self.now.summed;
    }
