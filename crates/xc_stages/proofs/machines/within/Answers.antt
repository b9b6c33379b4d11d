use Rattle.xc_machine.specs.Machines.{merge_of}
use Rattle.xc_stages.proofs.Merging.{within_stops}
use Rattle.xc_stages.proofs.machines.within.Goals as goal

pub returns-then-count-most-clause-stops : goal.returns-then-count-most-clause-stops
returns-then-count-most-clause-stops c =
    within_stops c.args.most c.states-count.result (merge_of c.args.machine.now) c.in_ok-refused_states.field-0 c.states-count.ensures.states c.if-count-most.true c.in_ok-refused_states.ensures
