-- What views of the code are, and why there is none.
use Rattle.std.specs.Prelude.{List, map}
use Rattle.xc_base.specs.Formats.{Row, IsFirstFault}
use Rattle.xc_base.specs.declared.fault.Stop.{Stop}
use Rattle.xc_base.specs.declared.fault.Stop.TheVariants.{File, Memory}
use Rattle.xc_expr.specs.Tests.{test_of}
use Rattle.xc_view.specs.ViewFiles.{ViewValue, view_format}
use Rattle.xc_view.specs.Parts.{prop_value, command_value}
use Rattle.xc_view.specs.declared.view.View.{View}

-- what a view is
abbrev pub value_of : View → ViewValue
value_of v = record { name = v.name; lattice = v.lattice; vars = v.vars; init = test_of v.init; props = map prop_value v.props; commands = map command_value v.commands }

-- why the reader of a file with these rows stops
abbrev pub IsStop : List Row → Stop → Type 0
IsStop rows (File fault) = IsFirstFault view_format rows fault
IsStop rows Memory = Unit {0}
