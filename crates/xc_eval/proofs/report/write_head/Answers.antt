use Rattle.std.proofs.Common.{[], ◌∷◌}
use Rattle.xc_machine.specs.Machines.{merge_of}
use Rattle.xc_lines.specs.declared.halt.Halt.TheVariants.{Memory}
use Rattle.xc_course.specs.Items.{Head}
use Rattle.xc_write.proofs.Writing.{passed, unmade}
use Rattle.xc_eval.proofs.Reporting.{item_on}
use Rattle.xc_eval.proofs.report.write_head.Goals as goal

pub returns-in_err-line : goal.returns-in_err-line
returns-in_err-line g c = passed (Head c.args.marked (merge_of c.args.machine.now) ∷ []) _ _ _ Memory c.from_residual.ensures.1 (unmade _ _)

pub returns : goal.returns
returns g c = item_on (Head c.args.marked (merge_of c.args.machine.now)) _ c.as_slice.result.now _ _ _ c.put_text.ensures c.in_ok-line.ensures c.as_slice.ensures
