use Rattle.std.proofs.Common.{◌≡◌, ◌++◌}
use Rattle.std.specs.List.{flat_map, range_with_len}
use Rattle.xc_report.specs.Reports.{node_text}
use Rattle.xc_report.proofs.rounds.push_rounds.Given as goal

abbrev pub invariant-loop-node : goal.invariant-loop-node
invariant-loop-node g l = l.text ≡ l.initial.text ++ flat_map (node_text l.marked l.nodes (g.T.Rounds.table l.table)) (range_with_len 0 l.node)
