-- Laws of the one command.
use Rattle.std.specs.Prelude.{◌≡◌, List}
use Rattle.clap.specs.Walk.{is_empty}
use Rattle.clap.specs.Words.{Text, fault_of, takes}
use Rattle.xc_words.specs.CommandLine.{command}

-- the command takes just the lists at which no step fails
abbrev pub TakesWithoutFault : Type 0
TakesWithoutFault = (line : List Text) → takes command line ≡ is_empty (fault_of command line)
