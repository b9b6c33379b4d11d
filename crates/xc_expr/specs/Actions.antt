-- From which states to which an action goes. It assigns variables, and leaves all others where they are.
use Rattle.std.specs.Prelude.{ℕ, Bool, true, false, ◌+◌, ◌%◌, ◌&&◌, ◌||◌, not, ◌==◌, nat_lt, List, [], ◌∷◌, length, Option, Some, None, find, slice_index}
use Rattle.std.specs.List.{list_all, list_any, range_with_len}
use Rattle.xc_expr.specs.Tests.{has_value, are_peers}
use Rattle.xc_forms.specs.declared.domain.Domain.{Domain}
use Rattle.xc_expr.specs.declared.assign.Assign.{Assign}
use Rattle.xc_expr.specs.declared.assign.Assign.TheVariants.{Value, Copy, Next, Prev, Any}

-- the variable that is assigned
abbrev pub assigned : Assign → ℕ
assigned (Value x v) = x
assigned (Copy x y) = x
assigned (Next x y) = x
assigned (Prev x y) = x
assigned (Any x) = x

abbrev pub assigns : ℕ → Assign → Bool
assigns x a = assigned a == x

-- Whether an assignment gives its variable that place, from the places of the row: a value, the place of another
-- variable, the one behind it or before it with the last before the first, or any.
abbrev pub gives : List ℕ → List ℕ → Assign → ℕ → Bool
gives sizes row (Value x v) place = place == v
gives sizes row (Copy x y) place = place == slice_index row y
gives sizes row (Next x y) place = place == (slice_index row y + 1) % slice_index sizes y
gives sizes row (Prev x y) place = (place + 1) % slice_index sizes y == slice_index row y
gives sizes row (Any x) place = true

-- whether a variable may go to that place: where it is assigned, to what the assignment gives, and else where it is
abbrev pub may_take : List ℕ → List ℕ → ℕ → Option Assign → ℕ → Bool
may_take sizes row here None place = place == here
may_take sizes row here (Some a) place = gives sizes row a place

abbrev pub may_go : List ℕ → List Assign → List ℕ → List ℕ → ℕ → Bool
may_go sizes action from to x = may_take sizes from (slice_index from x) (find (assigns x) action) (slice_index to x)

-- whether the action goes from the places of one state to those of another
abbrev pub allows : List ℕ → List Assign → List ℕ → List ℕ → Bool
allows sizes action from to = list_all (may_go sizes action from to) (range_with_len 0 (length sizes))

-- the variables and the value are there, and two variables have the same values
abbrev pub is_assign_in_range : List Domain → Assign → Bool
is_assign_in_range vars (Value x v) = has_value vars x v
is_assign_in_range vars (Copy x y) = are_peers vars x y
is_assign_in_range vars (Next x y) = are_peers vars x y
is_assign_in_range vars (Prev x y) = are_peers vars x y
is_assign_in_range vars (Any x) = nat_lt x (length vars)

-- whether a variable is assigned twice
abbrev pub assigns_twice : List Assign → Bool
assigns_twice [] = false
assigns_twice (a ∷ more) = list_any (assigns (assigned a)) more || assigns_twice more

-- each assignment is in range, and no variable is assigned twice
abbrev pub is_action_in_range : List Domain → List Assign → Bool
is_action_in_range vars action = list_all (is_assign_in_range vars) action && not (assigns_twice action)
