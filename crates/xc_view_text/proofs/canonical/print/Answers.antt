use Rattle.std.proofs.Common.{map, ap, ◌∙◌}
use Rattle.xc_expr.specs.Tests.{test_of}
use Rattle.xc_view.specs.Parts.{prop_value, command_value}
use Rattle.xc_view.specs.Views.{value_of}
use Rattle.xc_view_text.proofs.Printing.{props_printed, commands_printed, whole_printed}
use Rattle.xc_view_text.proofs.Rereading.{text_reads_again, text_is_sound}
use Rattle.xc_view_text.proofs.canonical.print.Goals as goal

pub push_props-requires : goal.push_props-requires
push_props-requires c =
    props_printed (value_of c.args.view.now) c.vars-vars.result.now c.as_slice.result.now c.args.view.now.sound c.vars-vars.ensures (ap (map prop_value) c.as_slice.ensures ∙ c.props.ensures)

pub push_commands-requires : goal.push_commands-requires
push_commands-requires c =
    commands_printed (value_of c.args.view.now) c.vars-vars.result.now c.as_slice-2.result.now c.args.view.now.sound c.vars-vars.ensures (ap (map command_value) c.as_slice-2.ensures ∙ c.commands.ensures)

pub returns : goal.returns
returns c =
    let v = value_of c.args.view.now in
    let whole =
    whole_printed v c.name.result.now c.lattice.result.now c.vars-vars.result.now (test_of c.init.result.now) (map prop_value c.as_slice.result.now) (map command_value c.as_slice-2.result.now)
    c.new-text.result c.push_name.new.text c.push_lattice.new.text c.push_var_lines.new.text c.push_init.new.text c.push_props.new.text c.push_commands.new.text
    c.name.ensures c.lattice.ensures c.vars-vars.ensures c.init.ensures (ap (map prop_value) c.as_slice.ensures ∙ c.props.ensures) (ap (map command_value) c.as_slice-2.ensures ∙ c.commands.ensures)
    c.new-text.ensures c.in_ok-push_name.ensures c.in_ok-push_lattice.ensures c.in_ok-push_var_lines.ensures c.in_ok-push_init.ensures c.in_ok-push_props.ensures c.in_ok-push_commands.ensures in
    record {
      text = whole;
      again = text_reads_again v c.args.view.now.sound c.args.view.now.writable c.push_commands.new.text whole;
      sound = text_is_sound v c.args.view.now.sound c.args.view.now.writable c.push_commands.new.text whole;
    }
