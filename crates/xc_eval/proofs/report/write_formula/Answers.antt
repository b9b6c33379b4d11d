use Rattle.std.proofs.Common.{[], ◌∷◌}
use Rattle.xc_machine.specs.Machines.{merge_of}
use Rattle.xc_lines.specs.declared.halt.Halt.TheVariants.{Memory}
use Rattle.xc_course.specs.Items.{Block}
use Rattle.xc_write.proofs.Writing.{passed, unmade}
use Rattle.xc_eval.proofs.Reporting.{item_on}
use Rattle.xc_eval.proofs.report.write_formula.Goals as goal

pub returns-in_err-text : goal.returns-in_err-text
returns-in_err-text g c = passed (Block c.args.marked (merge_of c.args.engine.now.model.now) c.args.number c.args.formula.now.nodes ∷ []) _ _ _ Memory c.from_residual.ensures.1 (unmade _ _)

pub returns : goal.returns
returns g c = item_on (Block c.args.marked (merge_of c.args.engine.now.model.now) c.args.number c.args.formula.now.nodes) _ c.as_slice.result.now _ _ _ c.put_text.ensures c.in_ok-text.ensures c.as_slice.ensures
