-- What the getters of matches give, of the rows that the matches are, and which numbers of words ask for nothing.
use Rattle.std.proofs.Common.{◌≡◌, ◌<◌, ◌≤◌, List, [], ◌∷◌, None, option_map, length, refl, arith, Bor}
use Rattle.clap.specs.Walk.{texts}
use Rattle.clap.specs.Words.{Text, all_of, first_of, first_value, matched_of, raw_values, rows_of}
use Rattle.clap.specs.declared.parser.matches.Found.{Found}
use Rattle.clap.proofs.WalkLemmas.{first_value-rows, raw_values-rows}
use Rattle.xc_words.specs.Requests.{asked_of}

pub first_row : (f : Found) (id : Text) → first_value f id ≡ first_of id (rows_of f)
first_row = first_value-rows

pub all_row : (f : Found) (id : Text) → option_map raw_values (matched_of f id) ≡ all_of id (rows_of f)
all_row = raw_values-rows

pub none_given : (mode : Text) (files : List (Bor Text)) → length files < 1 → asked_of mode (texts files) ≡ None
none_given mode [] less = refl
none_given mode (file ∷ rest) less = absurd (omega (arith, less))

pub more_given : (mode : Text) (files : List (Bor Text)) → 3 ≤ length files → asked_of mode (texts files) ≡ None
more_given mode [] more = absurd (omega (arith, more))
more_given mode (a ∷ []) more = absurd (omega (arith, more))
more_given mode (a ∷ b ∷ []) more = absurd (omega (arith, more))
more_given mode (a ∷ b ∷ c ∷ rest) more = refl
