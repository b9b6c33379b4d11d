-- What holds of the table of an order value, and the table that its rows are.
use Rattle.std.specs.Prelude.{◌≡◌, ◌<◌, ◌≤◌, ℕ, Bool, true, List, [], length, take, map}
use Rattle.std.specs.List.{slice_index_or}
use Rattle.xc_theory.specs.Orders.{is_below, IsSquare}

-- a square table of one element to 64 that is reflexive and transitive
pub record IsOrder (n : ℕ) (table : List (List Bool)) : Type 0 where
  pub positive : 0 < n
  pub limit : n ≤ 64
  pub square : IsSquare n table
  pub reflexive : (a : ℕ) → a < n → is_below table a a ≡ true
  pub transitive : (a b c : ℕ) → a < n → b < n → c < n → is_below table a b ≡ true → is_below table b c ≡ true → is_below table a c ≡ true

-- n rows of 64 truth values
pub record IsMatrix (n : ℕ) (rows : List (List Bool)) : Type 0 where
  pub rows_are : length rows ≡ n
  pub columns : (a : ℕ) → a < n → length (slice_index_or rows a []) ≡ 64

-- the first n columns
abbrev pub table_of : ℕ → List (List Bool) → List (List Bool)
table_of n rows = map (take n) rows

-- rows of 64 truth values whose first n columns are an order of n elements
pub record HoldsOrder (n : ℕ) (rows : List (List Bool)) : Type 0 where
  pub matrix : IsMatrix n rows
  pub order : IsOrder n (table_of n rows)
