-- The transitions from states, and the joins of what holds at the states that they lead to.
use Rattle.std.specs.Prelude.{◌≡◌, ◌<◌, ◌≤◌, ◌*◌, ℕ, List, [], ◌∷◌, length, map, get_or, slice_index}
use Rattle.std.specs.List.{range_with_len, slice_index_or}
use Rattle.std.specs.Coded.{Coded-set, coded_ℕ, Π_prop, le_prop}
use Rattle.xc_alg.specs.Operations.{Operations}
use Rattle.xc_alg.specs.Products.{product}
use Rattle.xc_alg.specs.Bounds.{joined}
use Rattle.xc_fixpoint.specs.Functions.{IsFunction}
use Rattle.xc_ctl.specs.Frames.{Frame}
use Rattle.xc_plain.specs.declared.row.Successor.{Successor}
use Rattle.xc_plain.specs.declared.row.Row.{Row}
use Rattle.xc_plain.specs.declared.row.Row.TheVariants.{Few, Each}

-- a row of n codes below a size
pub record IsRow (size n : ℕ) (row : List ℕ) : Type 0 where
  pub count : length row ≡ n
  pub range : (s : ℕ) → s < n → slice_index row s < size

-- successors among n states, with values below a size
pub record AreSuccessors (size n : ℕ) (successors : List Successor) : Type 0 where
  pub states : (i : ℕ) (other : Successor) → i < length successors → (get_or successors i other).state < n
  pub values : (i : ℕ) (other : Successor) → i < length successors → (get_or successors i other).value < size

-- what is joined already, and what each successor weighs, one after the other
abbrev pub few_joined : Operations → (ℕ → ℕ) → ℕ → List Successor → ℕ
few_joined o f sum [] = sum
few_joined o f sum (here ∷ more) = few_joined o f (o.join (o.meet here.value (f here.state)) sum) more

-- what each of m states from k on weighs, joined one after the other
unfoldable pub weighed_from : Operations → (ℕ → ℕ) → (ℕ → ℕ) → ℕ → ℕ → ℕ
weighed_from o relation f k m = joined o (map (λ t. o.meet (relation t) (f t)) (range_with_len k m))

-- what holds at some state that the transitions lead to
abbrev pub row_joined : Operations → (ℕ → ℕ) → Row → ℕ
row_joined o f (Few successors) = few_joined o f o.bottom successors
row_joined o f (Each values) = weighed_from o (slice_index values) f 0 (length values)

-- each of them is to one of n states, with a value below a size
abbrev pub IsSafe : ℕ → ℕ → Row → Type 0
IsSafe size n (Few successors) = AreSuccessors size n successors
IsSafe size n (Each values) = IsRow size n values

-- how many numbers a row keeps
abbrev pub numbers_in : Row → ℕ
numbers_in (Few successors) = 2 * length successors
numbers_in (Each values) = length values

-- the row is that of the values of a relation to n states, and keeps no more than a number for each state
pub record IsRowOf (o : Operations) (n : ℕ) (relation : ℕ → ℕ) (row : Row) : Type 0 where
  pub safe : IsSafe o.size n row
  pub small : numbers_in row ≤ n
  pub told : (f : ℕ → ℕ) → IsFunction o n f → row_joined o f row ≡ weighed_from o relation f 0 n

-- the row of a state
abbrev pub row_at : List Row → ℕ → Row
row_at rows s = slice_index_or rows s (Each [])

-- what holds at some next state, by the rows of all states
abbrev pub next_by : Operations → List Row → (ℕ → ℕ) → ℕ → ℕ
next_by o rows f s = row_joined o f (row_at rows s)

-- rows of n states with transitions among them
pub record AreSafe (size n : ℕ) (rows : List Row) : Type 0 where
  pub count : length rows ≡ n
  pub each : (s : ℕ) → s < n → IsSafe size n (row_at rows s)

-- the rows are those of the states of a frame
pub record AreRowsOf (frame : Frame) (rows : List Row) : Type 0 where
  pub count : length rows ≡ frame.states
  pub each : (s : ℕ) → s < frame.states → IsRowOf (product frame.parts) frame.states (frame.relation s) (row_at rows s)

-- each of these facts has one proof at most
IsRow-prop : (size n : ℕ) (row : List ℕ) → IsProp (IsRow size n row)
IsRow-prop size n row p q = λ i. record {
  count = Coded-set coded_ℕ _ _ p.count q.count i;
  range = Π_prop (λ s. Π_prop (λ low. le_prop)) p.range q.range i;
}

IsSafe-prop : (size n : ℕ) (row : Row) → IsProp (IsSafe size n row)
IsSafe-prop size n (Few successors) p q = λ i. record {
  states = Π_prop (λ place. Π_prop (λ other. Π_prop (λ low. le_prop))) p.states q.states i;
  values = Π_prop (λ place. Π_prop (λ other. Π_prop (λ low. le_prop))) p.values q.values i;
}
IsSafe-prop size n (Each values) p q = IsRow-prop size n values p q

IsRowOf-prop : (o : Operations) (n : ℕ) (relation : ℕ → ℕ) (row : Row) → IsProp (IsRowOf o n relation row)
IsRowOf-prop o n relation row p q = λ i. record {
  safe = IsSafe-prop o.size n row p.safe q.safe i;
  small = le_prop p.small q.small i;
  told = Π_prop (λ f. Π_prop (λ within. Coded-set coded_ℕ _ _)) p.told q.told i;
}

pub AreRowsOf-prop : (frame : Frame) (rows : List Row) → IsProp (AreRowsOf frame rows)
AreRowsOf-prop frame rows p q = λ i. record {
  count = Coded-set coded_ℕ _ _ p.count q.count i;
  each = Π_prop (λ s. Π_prop (λ low. IsRowOf-prop (product frame.parts) frame.states (frame.relation s) (row_at rows s))) p.each q.each i;
}
