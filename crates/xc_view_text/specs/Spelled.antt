-- The lines of one kind in a canonical text.
-- Words for the steps of the code: public clauses do not rest on them.
use Rattle.std.specs.Prelude.{ℕ, Bool, ◌&&◌, List}
use Rattle.xc_expr.specs.Tests.{test_of, is_in_range}
use Rattle.xc_expr.specs.Actions.{is_action_in_range}
use Rattle.xc_forms.specs.PrintedLines as forms
use Rattle.xc_forms.specs.declared.domain.Domain.{Domain}
use Rattle.xc_view_lines.specs.ViewLines.{Statement}
use Rattle.xc_view.specs.Printing.{spelling}
use Rattle.xc_view.specs.declared.lines.PropLine.{PropLine}
use Rattle.xc_view.specs.declared.lines.Command.{Command}

-- what the statements that `say` makes of items are as text
abbrev pub written : {X : Type 0} → (X → Statement) → List X → List ℕ
written say xs = forms.written spelling say xs

-- whether the numbers in a line, and in a command, are there, so that they can be printed by their names
abbrev pub is_prop_printed : List Domain → PropLine → Bool
is_prop_printed vars l = is_in_range vars (test_of l.guard)

abbrev pub is_command_printed : List Domain → Command → Bool
is_command_printed vars c = is_in_range vars (test_of c.guard) && is_action_in_range vars c.action
