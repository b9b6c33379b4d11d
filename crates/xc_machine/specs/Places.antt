-- The parts of viewpoints by their places.
use Rattle.std.specs.Prelude.{ℕ, []}
use Rattle.std.specs.List.{slice_index_or}
use Rattle.xc_expr.specs.Tests as tests
use Rattle.xc_forms.specs.declared.domain.Domain.{Domain}
use Rattle.xc_view.specs.ViewFiles.{ViewValue, PropValue, CommandValue}

-- the variable, the command and the line of a proposition at a place
abbrev pub variable_at : ViewValue → ℕ → Domain
variable_at view x = slice_index_or view.vars x (record { name = []; values = [] })

abbrev pub command_at : ViewValue → ℕ → CommandValue
command_at view c = slice_index_or view.commands c (record { name = []; value = []; guard = tests.False; action = [] })

abbrev pub line_at : ViewValue → ℕ → PropValue
line_at view l = slice_index_or view.props l (record { name = []; value = []; guard = tests.False })
