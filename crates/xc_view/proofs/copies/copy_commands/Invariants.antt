use Rattle.std.proofs.Common.{◌≡◌, map, take}
use Rattle.xc_view.specs.Parts.{command_value}
use Rattle.xc_view.proofs.copies.copy_commands.Given as goal

abbrev pub invariant-loop-command : goal.invariant-loop-command
invariant-loop-command l = map command_value l.copies ≡ map command_value (take l.command-index l.commands)
