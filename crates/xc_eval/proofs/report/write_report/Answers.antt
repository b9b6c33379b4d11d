use Rattle.std.proofs.Common.{subst}
use Rattle.xc_ctl.specs.Formulas.{nodes_in}
use Rattle.xc_machine.specs.Machines.{merge_of}
use Rattle.xc_machine.specs.declared.machine.Machine.{Machine}
use Rattle.xc_lines.specs.declared.halt.Halt.TheVariants.{Memory}
use Rattle.xc_write.specs.Writing.{WritesOn}
use Rattle.xc_write.proofs.Writing.{passed, unmade}
use Rattle.xc_eval.specs.Checking.{blocks_of, report_items}
use Rattle.xc_eval.proofs.Reporting.{head_stops, head_then}
use Rattle.xc_eval.proofs.report.write_report.Goals as goal

pub returns-in_err-engine : goal.returns-in_err-engine
returns-in_err-engine g c = passed (report_items c.args.marked (merge_of c.args.machine.now) (nodes_in c.args.formulas.now)) _ _ _ Memory c.from_residual.ensures.1 (unmade _ _)

pub returns-in_err-write_head : goal.returns-in_err-write_head
returns-in_err-write_head g c =
    passed (report_items c.args.marked (merge_of c.args.machine.now) (nodes_in c.args.formulas.now)) _ _ _ _ c.from_residual-in_err-write_head.ensures.1
    (head_stops c.args.marked (merge_of c.args.machine.now) (nodes_in c.args.formulas.now) _ _ _ c.in_err-write_head.ensures)

pub returns : goal.returns
returns g c =
    head_then c.args.marked (merge_of c.args.machine.now) (nodes_in c.args.formulas.now) _ _ _ _ _ c.in_ok-write_head.ensures
    (subst (λ (machine : Machine). WritesOn (blocks_of c.args.marked (merge_of machine) 1 (nodes_in c.args.formulas.now)) (g.W.Sink.seen c.write_head.new.out) (g.W.Sink.seen c.write_formulas.new.out) c.write_formulas.result) c.in_ok-engine.ensures c.write_formulas.ensures)
