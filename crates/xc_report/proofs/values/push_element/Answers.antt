use Rattle.std.proofs.Common.{arith}
use Rattle.xc_machine.specs.Machines.{merge_of}
use Rattle.xc_report.proofs.Telling.{digits_said}
use Rattle.xc_report.proofs.values.push_element.Goals as goal

pub returns : goal.returns
returns c =
    digits_said (merge_of c.args.machine.now) c.args.element c.loop-part.part c.loop-part.text c.args.text.now c.requires
    (omega (arith, c.viewpoints-part-end.ensures.count, c.loop-part-test.false, c.loop-part.auto.part-end)) c.loop-part.invariant
