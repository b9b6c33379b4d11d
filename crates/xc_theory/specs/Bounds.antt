-- Greatest lower and least upper bounds of lists of elements, in an order table.
use Rattle.std.specs.Prelude.{◌≡◌, ◌<◌, ℕ, Bool, true, ◌&&◌, ◌||◌, not, List, length, find, Option, unwrap_or}
use Rattle.std.specs.List.{list_all}
use Rattle.xc_theory.specs.Orders.{is_below, elements}

-- whether m is below each of the elements
abbrev pub is_lower_bound : List (List Bool) → List ℕ → ℕ → Bool
is_lower_bound table xs m = list_all (λ x. is_below table m x) xs

-- whether m is above each of the elements
abbrev pub is_upper_bound : List (List Bool) → List ℕ → ℕ → Bool
is_upper_bound table xs m = list_all (λ x. is_below table x m) xs

-- m is a greatest lower bound of the elements xs
pub record IsMeet (table : List (List Bool)) (xs : List ℕ) (m : ℕ) : Type 0 where
  pub in_range : m < length table
  pub lower : is_lower_bound table xs m ≡ true
  pub greatest : (l : ℕ) → l < length table → is_lower_bound table xs l ≡ true → is_below table l m ≡ true

-- m is a least upper bound of the elements xs
pub record IsJoin (table : List (List Bool)) (xs : List ℕ) (m : ℕ) : Type 0 where
  pub in_range : m < length table
  pub upper : is_upper_bound table xs m ≡ true
  pub least : (u : ℕ) → u < length table → is_upper_bound table xs u ≡ true → is_below table m u ≡ true

-- whether m is a lower bound of xs that each lower bound of them is below
abbrev pub is_meet : List (List Bool) → List ℕ → ℕ → Bool
is_meet table xs m = is_lower_bound table xs m && list_all (λ l. not (is_lower_bound table xs l) || is_below table l m) (elements table)

-- whether m is an upper bound of xs that is below each upper bound of them
abbrev pub is_join : List (List Bool) → List ℕ → ℕ → Bool
is_join table xs m = is_upper_bound table xs m && list_all (λ u. not (is_upper_bound table xs u) || is_below table m u) (elements table)

-- the first greatest lower bound, and the first least upper bound; None where there is none
unfoldable pub first_meet : List (List Bool) → List ℕ → Option ℕ
first_meet table xs = find (is_meet table xs) (elements table)

unfoldable pub first_join : List (List Bool) → List ℕ → Option ℕ
first_join table xs = find (is_join table xs) (elements table)

-- the bound where there is one, and else element 0
abbrev pub meet_of : List (List Bool) → List ℕ → ℕ
meet_of table xs = unwrap_or (first_meet table xs) 0

abbrev pub join_of : List (List Bool) → List ℕ → ℕ
join_of table xs = unwrap_or (first_join table xs) 0
