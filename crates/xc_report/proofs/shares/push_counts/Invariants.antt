use Rattle.std.proofs.Common.{◌≡◌, ◌++◌}
use Rattle.std.specs.List.{flat_map, range_with_len}
use Rattle.xc_machine.specs.Machines.{merge_of}
use Rattle.xc_report.specs.Reports.{count_text}
use Rattle.xc_report.proofs.shares.push_counts.Given as goal

abbrev pub invariant-loop-element : goal.invariant-loop-element
invariant-loop-element g l = l.text ≡ l.fn.text ++ flat_map (count_text (merge_of l.told.machine.now) ((g.T.Rounds.table l.told.table.now).at l.told.node) l.v) (range_with_len 0 l.element)
