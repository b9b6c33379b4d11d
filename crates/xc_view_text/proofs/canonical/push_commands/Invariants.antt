use Rattle.std.proofs.Common.{◌≡◌, ◌++◌, map, drop}
use Rattle.xc_view.specs.Parts.{command_value}
use Rattle.xc_view.specs.Printing.{command_statement}
use Rattle.xc_view_text.specs.Spelled.{written}
use Rattle.xc_view_text.proofs.canonical.push_commands.Given as goal

abbrev pub invariant-loop-command : goal.invariant-loop-command
invariant-loop-command l = l.text ++ written (command_statement l.vars) (map command_value (drop l.command-index l.commands)) ≡ l.fn.text ++ written (command_statement l.vars) (map command_value l.commands)
