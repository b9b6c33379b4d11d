-- Orders of the elements 0 to n - 1, as tables of truth values, and the order that pairs of elements span.
use Rattle.std.specs.Prelude.{◌≡◌, ◌<◌, ℕ, Bool, true, false, List, [], ◌∷◌, length}
use Rattle.std.specs.List.{slice_index_or, range_with_len}

-- The table of an order has a row for each element: the truth values that say which elements it is below.
abbrev pub Table : Type 0
Table = List (List Bool)

-- whether a is below b
abbrev pub is_below : List (List Bool) → ℕ → ℕ → Bool
is_below table a b = slice_index_or (slice_index_or table a []) b false

-- the elements of an order table
abbrev pub elements : List (List Bool) → List ℕ
elements table = range_with_len 0 (length table)

-- n rows of n truth values
pub record IsSquare (n : ℕ) (table : List (List Bool)) : Type 0 where
  pub rows : length table ≡ n
  pub columns : (a : ℕ) → a < n → length (slice_index_or table a []) ≡ n

-- no two different elements are each below the other
abbrev pub IsAntisymmetric : List (List Bool) → Type 0
IsAntisymmetric table = (a b : ℕ) → a < length table → b < length table → is_below table a b ≡ true → is_below table b a ≡ true → a ≡ b

-- the steps lead from a to b: a is related to the first, each of them to the next, and the last one is b
abbrev pub Leads : (ℕ → ℕ → Type 0) → ℕ → List ℕ → ℕ → Type 0
Leads related a [] b = a ≡ b
Leads related a (x ∷ steps) b = related a x × Leads related x steps b

-- some steps lead from a to b, none where they are the same
abbrev pub Reaches : (ℕ → ℕ → Type 0) → ℕ → ℕ → Type 0
Reaches related a b = (steps : List ℕ) × Leads related a steps b

-- the order of n elements in which a is below b exactly where a reaches b
pub record IsSpannedBy (n : ℕ) (related : ℕ → ℕ → Type 0) (table : List (List Bool)) : Type 0 where
  pub square : IsSquare n table
  pub reached : (a b : ℕ) → a < n → b < n → is_below table a b ≡ true → Reaches related a b
  pub below : (a b : ℕ) → a < n → b < n → Reaches related a b → is_below table a b ≡ true
