use Rattle.std.proofs.Common.{◌≡◌, ◌++◌}
use Rattle.std.specs.List.{flat_map, range_with_len}
use Rattle.xc_machine.specs.Machines.{merge_of}
use Rattle.xc_report.specs.Reports.{share_text}
use Rattle.xc_report.proofs.shares.push_shares.Given as goal

abbrev pub invariant-loop-v : goal.invariant-loop-v
invariant-loop-v g l = l.text ≡ l.fn.text ++ flat_map (share_text l.marked (merge_of l.told.machine.now) ((g.T.Rounds.table l.told.table.now).at l.told.node)) (range_with_len 0 l.v)
