use Rattle.xc_ctl.specs.Formulas.{nodes_in}
use Rattle.xc_machine.specs.Machines.{merge_of}
use Rattle.xc_lines.specs.declared.passed.Passed.TheVariants as passed
use Rattle.xc_lines.specs.declared.status.Status.TheVariants.{Done}
use Rattle.xc_course.specs.Trees.{Serve}
use Rattle.xc_course.proofs.Working.{works_passed}
use Rattle.xc_write.proofs.Serving.{served, served_not}
use Rattle.xc_eval.specs.Checking.{report_items}
use Rattle.xc_eval.proofs.report.report.Goals as goal

pub returns-in_err-write_report : goal.returns-in_err-write_report
returns-in_err-write_report g c = λ now.
    works_passed (Serve Done (report_items c.args.marked (merge_of c.args.machine.now) (nodes_in c.args.formulas.now))) now now _ _ _ _ c.from_residual.ensures.1
    (served_not Done (report_items c.args.marked (merge_of c.args.machine.now) (nodes_in c.args.formulas.now)) _ _ _ c.in_err-write_report.ensures now)

pub returns : goal.returns
returns g c = served passed.Done (report_items c.args.marked (merge_of c.args.machine.now) (nodes_in c.args.formulas.now)) _ _ _ c.in_ok-write_report.ensures
