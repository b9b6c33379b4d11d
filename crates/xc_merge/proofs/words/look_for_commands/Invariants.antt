use Rattle.std.proofs.Common.{◌≡◌, drop}
use Rattle.xc_merge.specs.Finding.{command_values}
use Rattle.xc_merge.proofs.words.look_for_commands.Given as goal

abbrev pub invariant-loop-command : goal.invariant-loop-command
invariant-loop-command l = command_values l.viewpoint l.names (drop l.command-index l.commands) ≡ command_values l.viewpoint l.names l.commands
