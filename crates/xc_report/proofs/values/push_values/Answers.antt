use Rattle.std.proofs.Common.{◌∙◌, get_or}
use Rattle.xc_machine.specs.Machines.{merge_of}
use Rattle.xc_report.proofs.Telling.{initial_at, state_there, value_there}
use Rattle.xc_report.proofs.values.push_values.Goals as goal

pub push_value-requires-clause-state : goal.push_value-requires-clause-state
push_value-requires-clause-state g c = initial_at (merge_of c.args.told.now.machine.now) c.as_slice-state-items.result.now c.loop-state.state-index (c.as_slice-state-items.ensures ∙ c.initials.ensures.initials) c.loop-state-test.true

pub at-element-requires-clause-state : goal.at-element-requires-clause-state
at-element-requires-clause-state g c =
    state_there (merge_of c.args.told.now.machine.now) c.args.told.now.nodes.now (g.T.Rounds.table c.args.told.now.table.now) c.requires.table (get_or c.as_slice-state-items.result.now c.loop-state.state-index 0)
    (initial_at (merge_of c.args.told.now.machine.now) c.as_slice-state-items.result.now c.loop-state.state-index (c.as_slice-state-items.ensures ∙ c.initials.ensures.initials) c.loop-state-test.true)

pub push_value-requires-clause-element : goal.push_value-requires-clause-element
push_value-requires-clause-element g c =
    rw c.at-element.ensures
    (value_there (merge_of c.args.told.now.machine.now) c.args.told.now.nodes.now (g.T.Rounds.table c.args.told.now.table.now) c.requires.table c.args.told.now.node (get_or c.as_slice-state-items.result.now c.loop-state.state-index 0) c.requires.node
    (initial_at (merge_of c.args.told.now.machine.now) c.as_slice-state-items.result.now c.loop-state.state-index (c.as_slice-state-items.ensures ∙ c.initials.ensures.initials) c.loop-state-test.true))
