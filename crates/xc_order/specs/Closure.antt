-- From pairs to the rows of the order that they span.
-- Words for the steps of the code: public clauses do not rest on them.
use Rattle.std.specs.Prelude.{◌≡◌, ◌<◌, ℕ, Bool, true, false, ◌||◌, cond, List, [], map, slice_set, replicate}
use Rattle.std.specs.List.{slice_index_or, range_with_len, AllWithin}
use Rattle.xc_theory.specs.Orders.{is_below, Reaches, IsSpannedBy}
use Rattle.xc_order.specs.declared.order.Pair.{Pair}
use Rattle.xc_order.specs.Pairs.{IsListed}
use Rattle.xc_order.specs.Order.{IsMatrix, HoldsOrder, table_of}

-- the row of an element that is below itself alone
abbrev pub own_row : ℕ → List Bool
own_row a = slice_set (replicate 64 false) a true

-- n rows of elements that are below themselves alone
abbrev pub own_rows : ℕ → List (List Bool)
own_rows n = map own_row (range_with_len 0 n)

-- each element is below itself, the first pairs are there, and nothing is that the pairs do not lead to
pub record HasPairs (n : ℕ) (pairs : List Pair) (done : ℕ) (rows : List (List Bool)) : Type 0 where
  pub matrix : IsMatrix n rows
  pub reflexive : (a : ℕ) → a < n → is_below rows a a ≡ true
  pub listed : AllWithin (λ p. is_below rows p.low p.high ≡ true) pairs 0 done
  pub reached : (a b : ℕ) → a < n → b < n → is_below rows a b ≡ true → Reaches (IsListed pairs) a b

-- the places that are in either row
abbrev pub either_row : List Bool → List Bool → List Bool
either_row row via = map (λ b. slice_index_or row b false || slice_index_or via b false) (range_with_len 0 64)

-- a row, with all of k's row where it has k
abbrev pub joined_row : ℕ → List Bool → List Bool → List Bool
joined_row k via row = cond (slice_index_or row k false) (either_row row via) row

-- the rows, each with all of k's row where it has k
abbrev pub closed_through : ℕ → List (List Bool) → List (List Bool)
closed_through k rows = map (joined_row k (slice_index_or rows k [])) rows

-- a is below b among n elements
abbrev pub Related : ℕ → List (List Bool) → ℕ → ℕ → Type 0
Related n rows a b = (a < n) × (b < n) × (is_below rows a b ≡ true)

-- the new rows have all of the old ones, nothing that those do not lead to, and they lead through each element below k
pub record ClosesBelow (n k : ℕ) (old new : List (List Bool)) : Type 0 where
  pub matrix : IsMatrix n new
  pub kept : (a b : ℕ) → Related n old a b → is_below new a b ≡ true
  pub reached : (a b : ℕ) → Related n new a b → Reaches (Related n old) a b
  pub through : (m a b : ℕ) → m < k → Related n new a m → Related n new m b → is_below new a b ≡ true

-- the rows hold the order of n elements that the pairs span
pub record Spans (n : ℕ) (pairs : List Pair) (rows : List (List Bool)) : Type 0 where
  pub holds : HoldsOrder n rows
  pub spanned : IsSpannedBy n (IsListed pairs) (table_of n rows)
