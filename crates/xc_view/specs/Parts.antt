-- What lines and commands of the code are, and what holds of each view.
use Rattle.std.specs.Prelude.{Bool, ◌&&◌, not, nat_le, length, map}
use Rattle.std.specs.List.{list_all}
use Rattle.xc_base.specs.Names.{has_twice}
use Rattle.xc_base.specs.Words.{is_name, is_file_word}
use Rattle.xc_forms.specs.Variables.{are_fit}
use Rattle.xc_forms.specs.VariableLines.{is_named_var}
use Rattle.xc_expr.specs.Tests.{test_of, is_in_range}
use Rattle.xc_expr.specs.Actions.{is_action_in_range}
use Rattle.xc_view.specs.ViewFiles.{PropValue, CommandValue, ViewValue, line_limit}
use Rattle.xc_view.specs.declared.lines.PropLine.{PropLine}
use Rattle.xc_view.specs.declared.lines.Command.{Command}

-- what lines and commands are
abbrev pub prop_value : PropLine → PropValue
prop_value l = record { name = l.name; value = l.value; guard = test_of l.guard }

abbrev pub command_value : Command → CommandValue
command_value c = record { name = c.name; value = c.value; guard = test_of c.guard; action = c.action }

abbrev pub is_prop_in : ViewValue → PropValue → Bool
is_prop_in v l = is_name l.name && is_name l.value && is_in_range v.vars l.guard

abbrev pub is_command_in : ViewValue → CommandValue → Bool
is_command_in v c = is_name c.name && is_name c.value && is_in_range v.vars c.guard && is_action_in_range v.vars c.action

-- What holds of each view: variables are fit, what is named by number is there, and there are at most 256 lines of
-- propositions and 256 commands, of different names. Names are names, each of its kind.
abbrev pub is_sound : ViewValue → Bool
is_sound v =
    is_name v.name && is_file_word v.lattice && are_fit v.vars && is_in_range v.vars v.init
    && list_all (is_prop_in v) v.props && nat_le (length v.props) line_limit
    && list_all (is_command_in v) v.commands && nat_le (length v.commands) line_limit
    && not (has_twice (map (λ (c : CommandValue). c.name) v.commands))
    && list_all is_named_var v.vars
