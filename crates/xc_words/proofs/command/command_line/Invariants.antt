use Rattle.std.proofs.Common.{◌≡◌, ◌++◌, map, drop}
use Rattle.std.specs.String.{string_bytes}
use Rattle.clap.specs.Walk.{texts}
use Rattle.xc_words.specs.CommandLine.{command_line}
use Rattle.xc_words.proofs.command.command_line.Given as goal

abbrev pub invariant-loop-word : goal.invariant-loop-word
invariant-loop-word l = texts l.all.items ++ map string_bytes (drop l.word-index l.words) ≡ command_line (map string_bytes l.words)
