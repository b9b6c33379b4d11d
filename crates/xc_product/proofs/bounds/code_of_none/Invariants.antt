use Rattle.std.proofs.Common.{◌≡◌, ◌+◌}
use Rattle.xc_alg.specs.Products.{product}
use Rattle.xc_product.specs.Bounds.{bound_of_none}
use Rattle.xc_product.specs.Parts.{lattices}
use Rattle.xc_product.proofs.Turns.{from}
use Rattle.xc_product.proofs.bounds.code_of_none.Given as goal

abbrev pub invariant-loop-part : goal.invariant-loop-part
invariant-loop-part l = l.code + bound_of_none l.which (from l.tables l.part) ≡ bound_of_none l.which (product (lattices l.tables))
