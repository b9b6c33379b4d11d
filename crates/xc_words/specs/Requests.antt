-- What the words ask for, by cases on the matches of the one command.
use Rattle.std.specs.Prelude.{◌≡◌, false, ◌||◌, if◌then◌else◌, List, [], ◌∷◌, Option, Some, None, Result, Ok, Err, ⊤, codes, option_map, option_and_then}
use Rattle.std.specs.Str.{bytes_eq}
use Rattle.clap.specs.Words.{Row, Text, all_of, first_of, matches_of}
use Rattle.xc_words.specs.CommandLine.{command, command_line, is_taken, has_flag}
use Rattle.xc_words.specs.Numbers.{number_of}
use Rattle.xc_words.specs.declared.asked.Request.{Request}
use Rattle.xc_words.specs.declared.asked.Request.TheVariants.{Lattice, Check, Show, Gen}
use Rattle.xc_words.specs.declared.asked.ShowKind.{ShowKind}
use Rattle.xc_words.specs.declared.asked.ShowKind.TheVariants as kinds
use Rattle.xc_words.specs.declared.fault.WordsFault.{WordsFault}
use Rattle.xc_words.specs.declared.fault.WordsFault.TheVariants.{Words, Memory}

-- the kind that a word names
abbrev pub kind_of : Text → Option ShowKind
kind_of word =
    if bytes_eq word (codes "lattice") then Some kinds.Lattice
    else if bytes_eq word (codes "view") then Some kinds.View
    else if bytes_eq word (codes "map") then Some kinds.Map
    else None

-- `show KIND FILE`
abbrev pub show_of : Text → Text → Option Request
show_of kind file = option_map (λ k. Show k file) (kind_of kind)

-- `gen NUMBER SIZE`
abbrev pub gen_of : Text → Text → Option Request
gen_of number size = option_and_then (λ n. option_map (λ s. Gen n s) (number_of size)) (number_of number)

abbrev pub with_one_file : Text → Text → Option Request
with_one_file mode file = if bytes_eq mode (codes "lattice") then Some (Lattice file) else None

abbrev pub with_two_files : Text → Text → Text → Option Request
with_two_files mode first second =
    if bytes_eq mode (codes "check") then Some (Check first second false false false)
    else if bytes_eq mode (codes "show") then show_of first second
    else if bytes_eq mode (codes "gen") then gen_of first second
    else None

-- what a mode and the words after it ask for, where no flag is given
abbrev pub asked_of : Text → List Text → Option Request
asked_of mode (file ∷ []) = with_one_file mode file
asked_of mode (first ∷ second ∷ []) = with_two_files mode first second
asked_of mode _ = None

-- what the matches ask for; none with a flag is served yet
abbrev pub request_in : List Row → Option Request
request_in rows =
    if has_flag (codes "witness") rows || (has_flag (codes "plain") rows || has_flag (codes "size") rows) then None
    else option_and_then (λ mode. option_and_then (asked_of mode) (all_of (codes "files") rows)) (first_of (codes "mode") rows)

-- the request, where the words are one: the command takes them, and its matches fit a case
abbrev pub request_of : List Text → Option Request
request_of words =
    if is_taken (command_line words) then request_in (matches_of command (command_line words)) else None

-- the answer is the request, or `Words` exactly where there is none; want of memory says nothing
abbrev pub Answers : Option Request → Result Request WordsFault → Type 0
Answers asked (Ok request) = asked ≡ Some request
Answers asked (Err Words) = asked ≡ None
Answers asked (Err Memory) = ⊤
