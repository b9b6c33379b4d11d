-- Numbers in words.
use Rattle.std.specs.Prelude.{ℕ, Bool, false, ◌&&◌, not, ◌==◌, nat_le, if◌then◌else◌, List, [], ◌∷◌, Option, Some, None}
use Rattle.std.specs.List.{list_all}
use Rattle.std.specs.Str.Parse.{digits_value}
use Rattle.xc_base.specs.Words.{is_within}

abbrev pub is_digit : ℕ → Bool
is_digit = is_within 48 57

-- one digit, or several of which the first is not `0`
abbrev pub is_numeral : List ℕ → Bool
is_numeral [] = false
is_numeral (first ∷ []) = is_digit first
is_numeral (first ∷ second ∷ rest) = not (first == 48) && list_all is_digit (first ∷ second ∷ rest)

-- the number that a numeral stands for, in base ten, where it is at most 4,294,967,295
abbrev pub number_of : List ℕ → Option ℕ
number_of text = if is_numeral text && nat_le (digits_value 10 text) 4294967295 then Some (digits_value 10 text) else None
