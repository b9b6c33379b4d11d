-- The names that variables and their values may have.
use Rattle.std.specs.Prelude.{ℕ, Bool, ◌&&◌, not, List, [], ◌∷◌, codes}
use Rattle.xc_base.specs.Names.{is_among}
use Rattle.xc_base.specs.Words.{is_name}

-- the words that no value has as its name, and those that no variable has
abbrev pub value_words : List (List ℕ)
value_words = codes "any" ∷ codes "next" ∷ codes "prev" ∷ codes "skip" ∷ codes "when" ∷ codes "do" ∷ []

abbrev pub variable_words : List (List ℕ)
variable_words = codes "true" ∷ codes "false" ∷ value_words

abbrev pub is_value_name : List ℕ → Bool
is_value_name text = is_name text && not (is_among value_words text)

abbrev pub is_variable_name : List ℕ → Bool
is_variable_name text = is_name text && not (is_among variable_words text)
