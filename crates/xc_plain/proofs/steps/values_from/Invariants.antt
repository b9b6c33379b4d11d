use Rattle.std.proofs.Common.{◌≡◌}
use Rattle.xc_alg.specs.Products.{product}
use Rattle.xc_fixpoint.specs.Lists.{values}
use Rattle.xc_plain.specs.Successors.{IsRow}
use Rattle.xc_plain.proofs.steps.values_from.Given as goal

abbrev pub invariant-loop-to : goal.invariant-loop-to
invariant-loop-to g l = record {
  range : IsRow (product (g.M.Framed.frame l.model).parts).size l.to l.row;
  value : l.row ≡ values l.to ((g.M.Framed.frame l.model).relation l.from);
}
