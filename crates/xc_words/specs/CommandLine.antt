-- The one command that the words are read by, and what its matches hold.
use Rattle.std.specs.Prelude.{◌≡◌, ⊤, Result, Ok, Err, Bool, true, false, ◌||◌, List, [], ◌∷◌, Some, codes}
use Rattle.std.specs.Option.{option_map_or}
use Rattle.std.specs.Str.{bytes_eq}
use Rattle.clap.specs.Lexer.{usize_max}
use Rattle.clap.specs.Words.{App, Row, Rule, Text, first_of, fault_of, found_of, matches_of, new_rule, rows_of, takes}
use Rattle.clap.specs.Walk.{is_empty}
use Rattle.clap.specs.Simple.{new_shape}
use Rattle.clap.specs.declared.builder.action.ArgAction.TheVariants.{SetTrue}
use Rattle.clap.specs.declared.parser.matches.ArgMatches.{ArgMatches}
use Rattle.xc_words.specs.declared.fault.WordsFault.{WordsFault}
use Rattle.xc_words.specs.declared.fault.WordsFault.TheVariants.{Words, Memory}

-- the word that says what to do
abbrev pub mode_rule : Rule
mode_rule = new_rule (codes "mode")

-- any number of words after it
abbrev pub files_rule : Rule
files_rule = record (new_rule (codes "files")) { range = Some (record { start_inclusive = 0; end_inclusive = usize_max }) }

-- a flag that is written `--` and its name
abbrev pub flag_rule : Text → Rule
flag_rule name = record (new_rule name) { long = Some name; action = Some SetTrue }

-- `chichek`, without help, version and arguments
abbrev pub bare : App
bare = record { top = record (new_shape (codes "chichek")) { disable_help_flag = true; disable_version_flag = true }; subs = [] }

-- `chichek` with its arguments
abbrev pub command : App
command = record bare {
  top = record bare.top { rules = mode_rule ∷ files_rule ∷ flag_rule (codes "witness") ∷ flag_rule (codes "plain") ∷ flag_rule (codes "size") ∷ [] };
}

-- the list that the command reads: the program's name, and then the words
abbrev pub command_line : List Text → List Text
command_line words = codes "chichek" ∷ words

-- whether the command takes a list: neither definition of when it does refuses it alone, as `TakesWithoutFault` says
abbrev pub is_taken : List Text → Bool
is_taken line = takes command line || is_empty (fault_of command line)

-- what was parsed holds the matches of the list; `Words` exactly where the command does not take it
abbrev pub IsMatched : List Text → Result ArgMatches WordsFault → Type 0
IsMatched line (Ok m) = (is_taken line ≡ true) × (rows_of (found_of m) ≡ matches_of command line)
IsMatched line (Err Words) = is_taken line ≡ false
IsMatched line (Err Memory) = ⊤

-- whether the flag of that name was given
abbrev pub has_flag : Text → List Row → Bool
has_flag name rows = option_map_or (λ value. bytes_eq value (codes "true")) (first_of name rows) false
