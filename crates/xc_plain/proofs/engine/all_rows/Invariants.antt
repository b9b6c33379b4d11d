use Rattle.std.proofs.Common.{◌≡◌, length}
use Rattle.xc_plain.specs.Nodes.{AreTold}
use Rattle.xc_plain.proofs.engine.all_rows.Given as goal

abbrev pub invariant-loop-kind : goal.invariant-loop-kind
invariant-loop-kind g l = record {
  count : length l.table ≡ l.kind-index;
  told : AreTold (g.M.Framed.frame l.model) l.nodes l.table;
}
