use Rattle.std.proofs.Common.{◌∙◌, ap, map, refl}
use Rattle.xc_sigmap.specs.Maps.{value_of as map_of}
use Rattle.xc_view.specs.Views.{value_of as view_of}
use Rattle.xc_view.specs.Parts.{prop_value, command_value}
use Rattle.xc_lattice.specs.Values.{value_of as lattice_of}
use Rattle.xc_merge.proofs.Gathering.{named_by_lines, named_by_commands, named_by_sends}
use Rattle.xc_merge.proofs.find.look_for_names.Goals as goal

pub returns-in_err-look_for_props : goal.returns-in_err-look_for_props
returns-in_err-look_for_props c =
    named_by_lines (map_of c.args.sigmap.now) c.args.number (record { view = view_of c.args.view.now; lattice = lattice_of c.args.lattice.now }) c.uses.result.now c.get.result.now c.requires c.uses.ensures c.get.ensures c.names-names.result.now c.as_slice.result.now c.args.view.now.commands c.names-names.ensures.names (ap (map prop_value) c.as_slice.ensures ∙ c.props.ensures) (refl)
    c.in_err-look_for_props.field-0.0 c.in_err-look_for_props.ensures c.from_residual.result c.from_residual.ensures.1

pub returns-in_err-look_for_commands : goal.returns-in_err-look_for_commands
returns-in_err-look_for_commands c =
    named_by_commands (map_of c.args.sigmap.now) c.args.number (record { view = view_of c.args.view.now; lattice = lattice_of c.args.lattice.now }) c.uses.result.now c.get.result.now c.requires c.uses.ensures c.get.ensures c.names-names.result.now c.as_slice.result.now c.as_slice-2.result.now c.names-names.ensures.names (ap (map prop_value) c.as_slice.ensures ∙ c.props.ensures) (ap (map command_value) c.as_slice-2.ensures ∙ c.commands.ensures)
    c.in_err-look_for_commands.field-0.0 c.in_ok-look_for_props.ensures c.in_err-look_for_commands.ensures c.from_residual-in_err-look_for_commands.result c.from_residual-in_err-look_for_commands.ensures.1

pub returns : goal.returns
returns c =
    named_by_sends (map_of c.args.sigmap.now) c.args.number (record { view = view_of c.args.view.now; lattice = lattice_of c.args.lattice.now }) c.uses.result.now c.get.result.now c.requires c.uses.ensures c.get.ensures c.names-names.result.now c.as_slice.result.now c.as_slice-2.result.now c.names-names.ensures.names (ap (map prop_value) c.as_slice.ensures ∙ c.props.ensures) (ap (map command_value) c.as_slice-2.ensures ∙ c.commands.ensures)
    c.as_slice-3.result.now c.look_in_sends.result (c.as_slice-3.ensures ∙ c.sends.ensures) c.in_ok-look_for_props.ensures c.in_ok-look_for_commands.ensures c.look_in_sends.ensures
