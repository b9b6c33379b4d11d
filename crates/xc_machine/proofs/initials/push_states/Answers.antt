use Rattle.std.proofs.Common.{arith}
use Rattle.xc_machine.proofs.Descending.{states_more}
use Rattle.xc_machine.proofs.initials.push_states.Goals as goal

pub loop-state-preserved : goal.loop-state-preserved
loop-state-preserved c = states_more c.args.states.now c.loop-state.states _ c.args.first c.loop-state.state (omega arith) c.loop-state.invariant c.in_ok-push.ensures.ok
