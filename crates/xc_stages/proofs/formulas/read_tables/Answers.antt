use Rattle.std.proofs.Common.{◌∙◌, ap}
use Rattle.xc_base.specs.Lines.{rows_in}
use Rattle.xc_sigmap_lines.specs.MapFiles.{MapValue}
use Rattle.xc_machine.specs.Machines.{merge_of}
use Rattle.xc_stages.proofs.Given.{are_given}
use Rattle.xc_stages.proofs.formulas.read_tables.Goals as goal

pub returns-clause-given : goal.returns-clause-given
returns-clause-given c =
    are_given (merge_of c.args.machine.now) _ (rows_in c.args.lines.now) c.parts.result.now c.props.result.now c.read_formulas.result c.parts.ensures (c.props.ensures ∙ ap (λ (plan : MapValue). plan.props) c.map.ensures) c.formulas_fit.ensures.size c.read_formulas.ensures.ok c.read_formulas.ensures.range
