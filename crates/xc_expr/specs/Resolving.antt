-- What the names in a guard or an action stand for.
use Rattle.std.specs.Prelude.{ℕ, Bool, if◌then◌else◌, List, [], ◌∷◌, map, Option, Some, None}
use Rattle.std.specs.List.{position}
use Rattle.std.specs.Option.{option_map}
use Rattle.std.specs.Str.{bytes_eq}
use Rattle.xc_base.specs.Names.{are_same, has_twice}
use Rattle.xc_forms.specs.Variables.{names_of, values_at}
use Rattle.xc_expr.specs.Tests.{Test}
use Rattle.xc_expr.specs.Tests as tests
use Rattle.xc_expr.specs.Written.{Written, True, False, Equal, Unequal, Not, And, Or, Assigned, To, Next, Prev, Any}
use Rattle.xc_forms.specs.declared.domain.Domain.{Domain}
use Rattle.xc_expr.specs.declared.assign.Assign.{Assign}
use Rattle.xc_expr.specs.declared.assign.Assign.TheVariants as assigns

-- what is found, and what comes of it
abbrev pub then_some : {X Y : Type 0} → Option X → (X → Option Y) → Option Y
then_some None next = None
then_some (Some x) next = next x

abbrev pub both : {X Y Z : Type 0} → (X → Y → Z) → Option X → Option Y → Option Z
both f None o = None
both f (Some x) None = None
both f (Some x) (Some y) = Some (f x y)

-- the variable of a name
abbrev pub variable : List Domain → List ℕ → Option ℕ
variable vars name = position (bytes_eq name) (names_of vars)

-- the value of a name that a variable has
abbrev pub value : List Domain → ℕ → List ℕ → Option ℕ
value vars x name = position (bytes_eq name) (values_at vars x)

-- the variable of a name, where it has the same list of values as the variable x
abbrev pub peer : List Domain → ℕ → List ℕ → Option ℕ
peer vars x name = then_some (variable vars name) (λ y. if are_same (values_at vars x) (values_at vars y) then Some y else None)

-- a value of x of that name, or else a variable of that name with the same values
abbrev pub or_peer : {Y : Type 0} → Option ℕ → (ℕ → Y) → Option ℕ → (ℕ → Y) → Option Y
or_peer (Some v) is found same = Some (is v)
or_peer None is found same = option_map same found

abbrev pub operand : {Y : Type 0} → List Domain → ℕ → List ℕ → (ℕ → Y) → (ℕ → Y) → Option Y
operand vars x name is same = or_peer (value vars x name) is (peer vars x name) same

-- the test that a written guard is, where its names are known
abbrev pub resolved : List Domain → Written → Option Test
resolved vars True = Some tests.True
resolved vars False = Some tests.False
resolved vars (Equal name w) = then_some (variable vars name) (λ x. operand vars x w (tests.Is x) (tests.Same x))
resolved vars (Unequal name w) = then_some (variable vars name) (λ x. operand vars x w (tests.IsNot x) (tests.Differ x))
resolved vars (Not g) = option_map tests.Not (resolved vars g)
resolved vars (And g h) = both tests.And (resolved vars g) (resolved vars h)
resolved vars (Or g h) = both tests.Or (resolved vars g) (resolved vars h)

-- the assignment that a written one is, where its names are known
abbrev pub resolved_assignment : List Domain → Assigned → Option Assign
resolved_assignment vars (To name w) = then_some (variable vars name) (λ x. operand vars x w (assigns.Value x) (assigns.Copy x))
resolved_assignment vars (Next name y) = then_some (variable vars name) (λ x. option_map (assigns.Next x) (peer vars x y))
resolved_assignment vars (Prev name y) = then_some (variable vars name) (λ x. option_map (assigns.Prev x) (peer vars x y))
resolved_assignment vars (Any name) = option_map assigns.Any (variable vars name)

abbrev pub resolved_action : List Domain → List Assigned → Option (List Assign)
resolved_action vars [] = Some []
resolved_action vars (a ∷ more) = both (λ b rest. b ∷ rest) (resolved_assignment vars a) (resolved_action vars more)

-- the name of the variable that is set
abbrev pub set_name : Assigned → List ℕ
set_name (To x w) = x
set_name (Next x y) = x
set_name (Prev x y) = x
set_name (Any x) = x

-- whether a variable's name is set twice
abbrev pub sets_twice : List Assigned → Bool
sets_twice action = has_twice (map set_name action)
