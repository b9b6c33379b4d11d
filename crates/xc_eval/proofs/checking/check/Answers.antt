use Rattle.xc_ctl.specs.Formulas.{nodes_in}
use Rattle.xc_machine.specs.Machines.{merge_of}
use Rattle.xc_sigmap.specs.Maps.{value_of as map_of}
use Rattle.xc_course.proofs.Working.{works_passed}
use Rattle.xc_eval.specs.Checking.{CheckTree}
use Rattle.xc_eval.proofs.Behind.{behind_map, behind_viewpoints, behind_merge, behind_formulas, behind_limit}
use Rattle.xc_eval.proofs.checking.check.Goals as goal

pub returns-in_err-sigmap : goal.returns-in_err-sigmap
returns-in_err-sigmap g c =
    works_passed (CheckTree c.args.sigmap.now c.args.formulas.now) _ _ _ _ _ _ c.from_residual.ensures.1
    (c.in_err-sigmap.ensures.stops (behind_map c.args.formulas.now) _)

pub returns-in_err-views : goal.returns-in_err-views
returns-in_err-views g c =
    works_passed (CheckTree c.args.sigmap.now c.args.formulas.now) _ _ _ _ _ _ c.from_residual-in_err-views.ensures.1
    (c.in_ok-sigmap.ensures.goes_on (behind_map c.args.formulas.now) _ _ _ _ (
    c.in_err-views.ensures.stops (behind_viewpoints c.args.formulas.now (map_of c.in_ok-sigmap.sigmap)) _))

pub returns-in_err-machine : goal.returns-in_err-machine
returns-in_err-machine g c =
    works_passed (CheckTree c.args.sigmap.now c.args.formulas.now) _ _ _ _ _ _ c.from_residual-in_err-machine.ensures.1
    (c.in_ok-sigmap.ensures.goes_on (behind_map c.args.formulas.now) _ _ _ _ (
    c.in_ok-views.ensures.goes_on (behind_viewpoints c.args.formulas.now (map_of c.in_ok-sigmap.sigmap)) _ _ _ _ (
    c.in_err-machine.ensures.stops _ (behind_merge c.args.formulas.now) _)))

pub returns-in_err-formulas : goal.returns-in_err-formulas
returns-in_err-formulas g c =
    works_passed (CheckTree c.args.sigmap.now c.args.formulas.now) _ _ _ _ _ _ c.from_residual-in_err-formulas.ensures.1
    (c.in_ok-sigmap.ensures.goes_on (behind_map c.args.formulas.now) _ _ _ _ (
    c.in_ok-views.ensures.goes_on (behind_viewpoints c.args.formulas.now (map_of c.in_ok-sigmap.sigmap)) _ _ _ _ (
    c.in_ok-machine.ensures.goes_on _ (behind_merge c.args.formulas.now) _ _ _ _ (
    c.in_err-formulas.ensures.stops (behind_formulas (merge_of c.in_ok-machine.machine)) _))))

pub returns-in_err-within : goal.returns-in_err-within
returns-in_err-within g c =
    works_passed (CheckTree c.args.sigmap.now c.args.formulas.now) _ _ _ _ _ _ c.from_residual-in_err-within.ensures.1
    (c.in_ok-sigmap.ensures.goes_on (behind_map c.args.formulas.now) _ _ _ _ (
    c.in_ok-views.ensures.goes_on (behind_viewpoints c.args.formulas.now (map_of c.in_ok-sigmap.sigmap)) _ _ _ _ (
    c.in_ok-machine.ensures.goes_on _ (behind_merge c.args.formulas.now) _ _ _ _ (
    c.in_ok-formulas.ensures.goes_on (behind_formulas (merge_of c.in_ok-machine.machine)) _ _ _ _ (
    c.in_err-within.ensures.stops _ (behind_limit (merge_of c.in_ok-machine.machine) (nodes_in c.in_ok-formulas.formulas)) _)))))

pub returns : goal.returns
returns g c =
    c.in_ok-sigmap.ensures.goes_on (behind_map c.args.formulas.now) _ _ _ _ (
    c.in_ok-views.ensures.goes_on (behind_viewpoints c.args.formulas.now (map_of c.in_ok-sigmap.sigmap)) _ _ _ _ (
    c.in_ok-machine.ensures.goes_on _ (behind_merge c.args.formulas.now) _ _ _ _ (
    c.in_ok-formulas.ensures.goes_on (behind_formulas (merge_of c.in_ok-machine.machine)) _ _ _ _ (
    c.in_ok-within.ensures.goes_on _ (behind_limit (merge_of c.in_ok-machine.machine) (nodes_in c.in_ok-formulas.formulas)) _ _ _ _ (
    c.report.ensures _)))))
