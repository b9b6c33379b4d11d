-- Names among names.
use Rattle.std.specs.Prelude.{ℕ, Bool, true, false, ◌&&◌, ◌||◌, List, [], ◌∷◌}
use Rattle.std.specs.List.{list_any, position_or_len, slice_index_or}
use Rattle.std.specs.Str.{bytes_eq}

-- whether a name stands in a list of names, and whether one stands there twice
abbrev pub is_among : List (List ℕ) → List ℕ → Bool
is_among names name = list_any (bytes_eq name) names

abbrev pub has_twice : List (List ℕ) → Bool
has_twice [] = false
has_twice (name ∷ names) = is_among names name || has_twice names

-- the name at a place
abbrev pub name_at : List (List ℕ) → ℕ → List ℕ
name_at names a = slice_index_or names a []

-- where a name stands first, and the number of names where it does not stand there
abbrev pub place_of : List (List ℕ) → List ℕ → ℕ
place_of names name = position_or_len (bytes_eq name) names

-- whether two lists have the same names in the same order
abbrev pub are_same : List (List ℕ) → List (List ℕ) → Bool
are_same [] [] = true
are_same [] (other ∷ others) = false
are_same (name ∷ names) [] = false
are_same (name ∷ names) (other ∷ others) = bytes_eq name other && are_same names others
