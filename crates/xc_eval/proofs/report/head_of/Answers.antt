use Rattle.xc_machine.specs.Machines.{merge_of}
use Rattle.xc_eval.proofs.Reporting.{head_is}
use Rattle.xc_eval.proofs.report.head_of.Goals as goal

pub returns : goal.returns
returns c = head_is c.args.marked (merge_of c.args.machine.now) c.head.result c.is_framed.ensures.lattices c.head.ensures
