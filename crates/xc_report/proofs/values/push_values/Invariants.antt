use Rattle.std.proofs.Common.{◌≡◌, ◌++◌, take}
use Rattle.std.specs.List.{flat_map}
use Rattle.xc_machine.specs.Machines.{merge_of}
use Rattle.xc_report.specs.Reports.{value_text}
use Rattle.xc_report.proofs.values.push_values.Given as goal

abbrev pub invariant-loop-state : goal.invariant-loop-state
invariant-loop-state g l = l.text ≡ l.fn.text ++ flat_map (value_text l.marked (merge_of l.told.machine.now) ((g.T.Rounds.table l.told.table.now).at l.told.node)) (take l.state-index l.state-items)
