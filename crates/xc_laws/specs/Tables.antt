-- Tables of the bounds of each two elements.
-- Words for the steps of the code: public clauses do not rest on them.
use Rattle.std.specs.Prelude.{◌≡◌, ◌<◌, ℕ, Bool, List, [], ◌∷◌, length, Option, None}
use Rattle.std.specs.List.{slice_index_or}
use Rattle.xc_theory.specs.Bounds.{first_meet, first_join}

-- a row for each element: its greatest lower bound with each
pub record HoldsMeets (table : List (List Bool)) (rows : List (List (Option ℕ))) : Type 0 where
  pub rows_are : length rows ≡ length table
  pub entries : (a b : ℕ) → a < length table → b < length table → slice_index_or (slice_index_or rows a []) b None ≡ first_meet table (a ∷ b ∷ [])

-- a row for each element: its least upper bound with each
pub record HoldsJoins (table : List (List Bool)) (rows : List (List (Option ℕ))) : Type 0 where
  pub rows_are : length rows ≡ length table
  pub entries : (a b : ℕ) → a < length table → b < length table → slice_index_or (slice_index_or rows a []) b None ≡ first_join table (a ∷ b ∷ [])
