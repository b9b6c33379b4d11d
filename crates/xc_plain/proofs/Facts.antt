-- The definitions at a small machine whose values are worked out by hand: a wrong definition does not check here.
use Rattle.std.proofs.Common.{◌≡◌, ℕ, true, false, cond, eqb, List, [], ◌∷◌, refl}
use Rattle.xc_theory.specs.Bounds.{first_meet, first_join}
use Rattle.xc_theory.proofs.Facts.{two, chain}
use Rattle.xc_alg.specs.Operations.{Operations}
use Rattle.xc_alg.specs.Products.{product}
use Rattle.xc_plain.specs.declared.row.Successor.{Successor}
use Rattle.xc_plain.specs.declared.row.Row.{Row}
use Rattle.xc_plain.specs.declared.row.Row.TheVariants.{Few, Each}
use Rattle.xc_plain.specs.declared.form.Form.TheVariants.{SomeUntil, EachUntil, Always}
use Rattle.xc_plain.specs.Successors.{few_joined, weighed_from, row_joined, numbers_in, row_at, next_by}
use Rattle.xc_plain.specs.Told.{all_next_by, always_by, some_until_by, each_until_by, step_by, goes_up}
use Rattle.xc_plain.specs.Nodes.{IsShaped, rows_at, last_row, rounds_in}
use Rattle.xc_plain.specs.Tables.{table_of}

-- an element of two and one of the chain: F,F is 0, F,M is 1, F,T is 2, T,F is 3, T,M is 4, and T,T is 5
abbrev o : Operations
o = product (two ∷ chain ∷ [])

-- from 0 there is T,M to 1 and F,T to 2, from 1 T,T to 1 and T,F to 2, from 2 nothing
abbrev from_0 : List Successor
from_0 = record { state = 2; value = 2 } ∷ record { state = 1; value = 4 } ∷ []

abbrev rows : List Row
rows = Few from_0 ∷ Each (0 ∷ 5 ∷ 3 ∷ []) ∷ Few [] ∷ []

-- T,T at 0, T,F at 1 and F,M at 2
abbrev f : ℕ → ℕ
f s = cond (eqb s 0) 5 (cond (eqb s 1) 3 1)

-- T,M with T,F is T,F, and F,T with F,M is F,M: together T,M; what is joined already stays
pub few_successors : (few_joined o f 0 from_0 ≡ 4) × (few_joined o f 2 from_0 ≡ 5) × (few_joined o f 2 [] ≡ 2) × (row_joined o f (Few from_0) ≡ 4) × (row_joined o f (Few []) ≡ 0)
unfolding product first_meet first_join
few_successors = (refl, refl, refl, refl, refl)

-- the same of values to each state, and of those to some of them
pub each_state : (row_joined o f (Each (0 ∷ 4 ∷ 2 ∷ [])) ≡ 4) × (row_joined o f (Each (1 ∷ 4 ∷ 2 ∷ [])) ≡ 4) × (row_joined o f (Each (2 ∷ 4 ∷ 2 ∷ [])) ≡ 5) × (row_joined o f (Each []) ≡ 0)
    × (weighed_from o (λ t. 5) f 1 2 ≡ 4) × (weighed_from o (λ t. 5) f 2 1 ≡ 1) × (weighed_from o (λ t. 5) f 0 0 ≡ 0)
unfolding weighed_from product first_meet first_join
each_state = (refl, refl, refl, refl, refl, refl, refl)

-- a successor is two numbers, and a value one
pub kept_numbers : (numbers_in (Few from_0) ≡ 4) × (numbers_in (Each (0 ∷ 5 ∷ 3 ∷ [])) ≡ 3) × (numbers_in (Few []) ≡ 0) × (row_at rows 1 ≡ Each (0 ∷ 5 ∷ 3 ∷ [])) × (row_at rows 3 ≡ Each [])
kept_numbers = (refl, refl, refl, refl, refl)

-- some next state: T,M at 0, T,F at 1, and nothing at 2, which leads nowhere
pub some_next_values : (next_by o rows f 0 ≡ 4) × (next_by o rows f 1 ≡ 3) × (next_by o rows f 2 ≡ 0)
unfolding weighed_from product first_meet first_join
some_next_values = (refl, refl, refl)

-- all next states: T,M at 0, nothing at 1, and all at 2
pub all_next_values : (all_next_by o rows f 0 ≡ 4) × (all_next_by o rows f 1 ≡ 0) × (all_next_by o rows f 2 ≡ 5)
unfolding weighed_from product first_meet first_join
all_next_values = (refl, refl, refl)

-- the step of EG with F,T here, and of E[U] with F,T here or T,F
pub path_steps : (always_by o rows (λ s. 2) f 0 ≡ 1) × (always_by o rows (λ s. 2) f 1 ≡ 0) × (some_until_by o rows (λ s. 2) (λ s. 3) f 0 ≡ 4) × (some_until_by o rows (λ s. 2) (λ s. 3) f 1 ≡ 3)
    × (some_until_by o rows (λ s. 5) (λ s. 2) f 2 ≡ 2)
unfolding weighed_from product first_meet first_join
path_steps = (refl, refl, refl, refl, refl)

-- that of A[U]: at 1 some next state holds and not all, and at 2 all and not some
pub paths_steps : (each_until_by o rows (λ s. 5) (λ s. 0) f 0 ≡ 4) × (each_until_by o rows (λ s. 2) (λ s. 3) f 0 ≡ 4) × (each_until_by o rows (λ s. 5) (λ s. 0) f 1 ≡ 0) × (each_until_by o rows (λ s. 5) (λ s. 2) f 2 ≡ 2)
unfolding weighed_from product first_meet first_join
paths_steps = (refl, refl, refl, refl)

-- the steps by their form, which differ at 1
pub form_steps : (step_by o rows SomeUntil (λ s. 5) (λ s. 1) f 1 ≡ 4) × (step_by o rows EachUntil (λ s. 5) (λ s. 1) f 1 ≡ 1) × (step_by o rows Always (λ s. 5) (λ s. 1) f 1 ≡ 3)
    × (goes_up SomeUntil ≡ true) × (goes_up EachUntil ≡ true) × (goes_up Always ≡ false)
unfolding weighed_from product first_meet first_join
form_steps = (refl, refl, refl, refl, refl, refl)

-- a node that is no fixpoint, and one that is reached in two rounds
abbrev table : List (List (List ℕ))
table = ((5 ∷ 3 ∷ 1 ∷ []) ∷ []) ∷ ((0 ∷ 0 ∷ 0 ∷ []) ∷ (1 ∷ 0 ∷ 3 ∷ []) ∷ (1 ∷ 2 ∷ 3 ∷ []) ∷ []) ∷ []

pub rounds_told : ((rounds_in 3 table).states ≡ 3) × ((rounds_in 3 table).nodes ≡ 2) × ((rounds_in 3 table).rounds 0 ≡ 0) × ((rounds_in 3 table).rounds 1 ≡ 2)
    × ((rounds_in 3 table).at 0 1 ≡ 3) × ((rounds_in 3 table).at 1 1 ≡ 2) × ((rounds_in 3 table).round_at 1 0 2 ≡ 0) × ((rounds_in 3 table).round_at 1 1 1 ≡ 0) × ((rounds_in 3 table).round_at 1 1 2 ≡ 3)
    × ((rounds_in 3 table).round_at 1 2 1 ≡ 2)
rounds_told = (refl, refl, refl, refl, refl, refl, refl, refl, refl, refl)

pub rows_told : (rows_at table 0 ≡ (5 ∷ 3 ∷ 1 ∷ []) ∷ []) × (rows_at table 2 ≡ []) × (last_row (rows_at table 1) ≡ 1 ∷ 2 ∷ 3 ∷ []) × (last_row [] ≡ [])
rows_told = (refl, refl, refl, refl)

-- and a table of the program's with these rows tells the same
pub table_told : (shaped : IsShaped 3 table) → ((table_of (record { states = 3; nodes = table; shaped = shaped })).at 1 1 ≡ 2) × ((table_of (record { states = 3; nodes = table; shaped = shaped })).rounds 1 ≡ 2)
table_told shaped = (refl, refl)
