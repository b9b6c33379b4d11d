use Rattle.std.proofs.Common.{◌≡◌, take, count_by}
use Rattle.xc_machine.specs.Machines.{merge_of}
use Rattle.xc_report.specs.Reports.{gives}
use Rattle.xc_report.proofs.shares.count.Given as goal

abbrev pub invariant-loop-state : goal.invariant-loop-state
invariant-loop-state g l = l.count ≡ count_by (λ s. gives (merge_of l.told.machine.now) l.v l.element ((g.T.Rounds.table l.told.table.now).at l.told.node s)) (take l.state-index l.state-items)
