use Rattle.std.proofs.Common.{◌≡◌}
use Rattle.xc_alg.specs.Products.{product}
use Rattle.xc_fixpoint.specs.Lists.{values}
use Rattle.xc_plain.specs.Successors.{IsRow}
use Rattle.xc_plain.proofs.node.atom_row.Given as goal

abbrev pub invariant-loop-state : goal.invariant-loop-state
invariant-loop-state g l = record {
  range : IsRow (product (g.M.Framed.frame l.model).parts).size l.state l.row;
  value : l.row ≡ values l.state ((g.M.Framed.frame l.model).prop l.prop);
}
