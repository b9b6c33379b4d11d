use Rattle.std.proofs.Common.{◌∙◌, ap}
use Rattle.xc_sigmap_lines.specs.MapFiles.{MapValue}
use Rattle.xc_machine.specs.Machines.{merge_of}
use Rattle.xc_ctl.specs.Formulas.{nodes_in}
use Rattle.machine_tests.proofs.Ranges.{within_machine}
use Rattle.machine_tests.proofs.engines.formulas_of.Goals as goal

pub returns : goal.returns
returns c =
    within_machine (merge_of c.args.machine.now) c.parts.result.now c.props-props.result.now (nodes_in c.in_ok-formulas.formulas) c.parts.ensures (c.props-props.ensures ∙ ap (λ (plan : MapValue). plan.props) c.map.ensures) c.formulas_fit.ensures.size c.in_ok-formulas.ensures.range
