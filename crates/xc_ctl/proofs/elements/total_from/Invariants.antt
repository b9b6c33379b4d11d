use Rattle.std.proofs.Common.{◌≡◌, ◌≤◌}
use Rattle.xc_ctl.specs.Resolving.{total_from}
use Rattle.xc_ctl.proofs.elements.total_from.Given as goal

abbrev pub invariant-loop-k : goal.invariant-loop-k
invariant-loop-k l = record {
  above : l.place ≤ l.k;
  known : l.total ≡ total_from l.parts l.k;
}
