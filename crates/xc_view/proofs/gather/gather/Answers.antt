use Rattle.std.proofs.Common.{◌∙◌, map}
use Rattle.xc_expr.specs.Tests.{test_of}
use Rattle.xc_view.specs.Parts.{prop_value, command_value}
use Rattle.xc_view.proofs.Gathered.{vars_are_fit, names_are_known, second_is, gathered, gathered_sound, gathered_writable}
use Rattle.xc_view.proofs.gather.gather.Goals as goal

pub lattice_name-requires : goal.lattice_name-requires
lattice_name-requires c =
    second_is c.args.draft c.as_slice-statements.result.now c.requires c.as_slice-statements.ensures c.index-statements-1.result c.index-statements-1.is

pub init_guard-requires : goal.init_guard-requires
init_guard-requires c =
    record {
      fit = vars_are_fit c.args.draft c.as_slice-statements.result.now c.requires c.as_slice-statements.ensures;
      known = names_are_known c.args.draft c.as_slice-statements.result.now c.requires c.as_slice-statements.ensures;
    }

pub prop_lines-requires : goal.prop_lines-requires
prop_lines-requires c =
    record {
      fit = vars_are_fit c.args.draft c.as_slice-statements.result.now c.requires c.as_slice-statements.ensures;
      known = names_are_known c.args.draft c.as_slice-statements.result.now c.requires c.as_slice-statements.ensures;
    }

pub commands-requires : goal.commands-requires
commands-requires c =
    record {
      fit = vars_are_fit c.args.draft c.as_slice-statements.result.now c.requires c.as_slice-statements.ensures;
      known = names_are_known c.args.draft c.as_slice-statements.result.now c.requires c.as_slice-statements.ensures;
    }

pub of-requires : goal.of-requires
of-requires c =
    record {
      sound =
          gathered_sound c.args.draft c.as_slice-statements.result.now c.requires c.as_slice-statements.ensures
          c.index-statements-0.result c.index-statements-1.result c.index-statements-0.is c.index-statements-1.is
          c.in_ok-name.name c.in_ok-lattice.lattice (test_of c.in_ok-init.init) (map prop_value c.in_ok-props.props) (map command_value c.in_ok-commands.commands)
          c.in_ok-name.ensures c.in_ok-lattice.ensures c.in_ok-init.ensures c.in_ok-props.ensures c.in_ok-commands.ensures;
      writable =
          gathered_writable c.args.draft c.as_slice-statements.result.now c.requires c.as_slice-statements.ensures
          c.index-statements-0.result c.index-statements-1.result c.index-statements-0.is c.index-statements-1.is
          c.in_ok-name.name c.in_ok-lattice.lattice (test_of c.in_ok-init.init) (map prop_value c.in_ok-props.props) (map command_value c.in_ok-commands.commands)
          c.in_ok-name.ensures c.in_ok-lattice.ensures c.in_ok-init.ensures c.in_ok-props.ensures c.in_ok-commands.ensures;
    }

pub returns : goal.returns
returns c =
    c.of.ensures
    ∙ gathered c.args.draft c.as_slice-statements.result.now c.requires c.as_slice-statements.ensures
    c.index-statements-0.result c.index-statements-1.result c.index-statements-0.is c.index-statements-1.is
    c.in_ok-name.name c.in_ok-lattice.lattice (test_of c.in_ok-init.init) (map prop_value c.in_ok-props.props) (map command_value c.in_ok-commands.commands)
    c.in_ok-name.ensures c.in_ok-lattice.ensures c.in_ok-init.ensures c.in_ok-props.ensures c.in_ok-commands.ensures
