-- What guards say of the places that variables have at a state.
use Rattle.std.specs.Prelude.{ℕ, Bool, true, false, ◌&&◌, ◌||◌, not, ◌==◌, nat_lt, List, length, slice_index}
use Rattle.xc_base.specs.Names.{are_same}
use Rattle.xc_forms.specs.Variables.{values_at}
use Rattle.xc_forms.specs.declared.domain.Domain.{Domain}
use Rattle.xc_expr.specs.declared.guard.Guard.{Guard}
use Rattle.xc_expr.specs.declared.guard.Guard.TheVariants as guards

-- a test of places: that a variable has a value or has it not, that two variables have the same value or have it not,
-- and what the connectives make of tests
pub data Test : Type 0 where
  True : Test
  False : Test
  Is : ℕ → ℕ → Test
  IsNot : ℕ → ℕ → Test
  Same : ℕ → ℕ → Test
  Differ : ℕ → ℕ → Test
  Not : Test → Test
  And : Test → Test → Test
  Or : Test → Test → Test

-- the test that a guard of the code is
abbrev pub test_of : Guard → Test
test_of guards.True = True
test_of guards.False = False
test_of (guards.Is x v) = Is x v
test_of (guards.IsNot x v) = IsNot x v
test_of (guards.Same x y) = Same x y
test_of (guards.Differ x y) = Differ x y
test_of (guards.Not' p g) = Not (test_of g)
test_of (guards.And' p g q h) = And (test_of g) (test_of h)
test_of (guards.Or' p g q h) = Or (test_of g) (test_of h)

-- whether it holds where the variables have the places of the row
abbrev pub holds_at : Test → List ℕ → Bool
holds_at True row = true
holds_at False row = false
holds_at (Is x v) row = slice_index row x == v
holds_at (IsNot x v) row = not (slice_index row x == v)
holds_at (Same x y) row = slice_index row x == slice_index row y
holds_at (Differ x y) row = not (slice_index row x == slice_index row y)
holds_at (Not g) row = not (holds_at g row)
holds_at (And g h) row = holds_at g row && holds_at h row
holds_at (Or g h) row = holds_at g row || holds_at h row

-- the variable is there, and has that value
abbrev pub has_value : List Domain → ℕ → ℕ → Bool
has_value vars x v = nat_lt x (length vars) && nat_lt v (length (values_at vars x))

-- both variables are there, and have the same list of values
abbrev pub are_peers : List Domain → ℕ → ℕ → Bool
are_peers vars x y = nat_lt x (length vars) && nat_lt y (length vars) && are_same (values_at vars x) (values_at vars y)

-- its variables and values are there, and two variables that it compares have the same values
abbrev pub is_in_range : List Domain → Test → Bool
is_in_range vars True = true
is_in_range vars False = true
is_in_range vars (Is x v) = has_value vars x v
is_in_range vars (IsNot x v) = has_value vars x v
is_in_range vars (Same x y) = are_peers vars x y
is_in_range vars (Differ x y) = are_peers vars x y
is_in_range vars (Not g) = is_in_range vars g
is_in_range vars (And g h) = is_in_range vars g && is_in_range vars h
is_in_range vars (Or g h) = is_in_range vars g && is_in_range vars h
