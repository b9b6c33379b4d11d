-- Guards, actions and variables at small cases whose values are known from outside: a wrong definition does not check here.
use Rattle.std.proofs.Common.{◌≡◌, ℕ, true, false, List, [], ◌∷◌, ◌++◌, Some, None, codes, refl}
use Rattle.xc_base.specs.Operators.{chained, chain, chain_up_to}
use Rattle.xc_grammar.specs.Reading.{level_by, whole_by, basic, whole_at, tree_in}
use Rattle.xc_forms.specs.declared.domain.Domain.{Domain}
use Rattle.xc_expr.specs.declared.assign.Assign.TheVariants as assigns
use Rattle.xc_expr.specs.Written.{IsGuard, action_tokens, Equal, Unequal, True, Not, And, Or, To, Next, Prev, Any}
use Rattle.xc_expr.specs.Written.IsSpelled.{truth, factor, summand, negated}
use Rattle.xc_expr.specs.GuardReading.{atom}
use Rattle.xc_expr.specs.ActionReading.{assignment_in, assignments_in}
use Rattle.xc_expr.specs.Reading.{guard_in, action_in}
use Rattle.xc_expr.specs.Resolving.{resolved, resolved_action, sets_twice}
use Rattle.xc_expr.specs.Tests as tests
use Rattle.xc_expr.specs.Tests.{holds_at, is_in_range}
use Rattle.xc_expr.specs.Actions.{allows, is_action_in_range}

abbrev pub x : List ℕ
x = codes "x"

abbrev pub y : List ℕ
y = codes "y"

abbrev pub o : List ℕ
o = codes "0"

-- `x=0` as tokens, and as a guard
abbrev pub x0 : List (List ℕ)
x0 = x ∷ codes "=" ∷ o ∷ []

-- `x=0|x=0&!x!=0`: `&` binds more than `|`, and `!` most
pub precedence : guard_in (x0 ++ codes "|" ∷ x0 ++ codes "&" ∷ codes "!" ∷ x ∷ codes "!=" ∷ o ∷ []) ≡ Some (Or (Equal x o) (And (Equal x o) (Not (Unequal x o))))
unfolding guard_in tree_in whole_at whole_by level_by basic atom chained chain chain_up_to
precedence = refl

-- `true|true|true` and `true&true&true` group to the left, and brackets group otherwise
pub grouped : (guard_in (codes "true" ∷ codes "|" ∷ codes "true" ∷ codes "|" ∷ codes "true" ∷ []) ≡ Some (Or (Or True True) True))
    × (guard_in (codes "true" ∷ codes "&" ∷ codes "true" ∷ codes "&" ∷ codes "true" ∷ []) ≡ Some (And (And True True) True))
    × (guard_in (codes "true" ∷ codes "|" ∷ codes "(" ∷ codes "true" ∷ codes "|" ∷ codes "true" ∷ codes ")" ∷ []) ≡ Some (Or True (Or True True)))
unfolding guard_in tree_in whole_at whole_by level_by basic atom chained chain chain_up_to
grouped = (refl, refl, refl)

-- what is no guard: nothing, an operator alone, a bracket that is not closed, a value alone, a reserved word as a value
pub no_guards : (guard_in [] ≡ None) × (guard_in (codes "true" ∷ codes "|" ∷ []) ≡ None) × (guard_in (codes "(" ∷ codes "true" ∷ []) ≡ None) × (guard_in (x ∷ []) ≡ None)
    × (guard_in (x ∷ codes "=" ∷ codes "next" ∷ []) ≡ None) × (guard_in (codes "true" ∷ codes "true" ∷ []) ≡ None)
unfolding guard_in tree_in whole_at whole_by level_by basic atom chained chain chain_up_to
no_guards = (refl, refl, refl, refl, refl, refl)

-- `!true`, by the grammar itself
pub spelled : IsGuard (codes "!" ∷ codes "true" ∷ []) (Not True)
spelled = summand 64 _ _ (factor 64 _ _ (negated 63 _ _ (truth 63)))

-- `x:=y;y:=next x`, `skip`, and what is no action
pub actions : (action_in (x ∷ codes ":=" ∷ y ∷ codes ";" ∷ y ∷ codes ":=" ∷ codes "next" ∷ x ∷ []) ≡ Some (To x y ∷ Next y x ∷ []))
    × (action_in (codes "skip" ∷ []) ≡ Some []) × (action_in [] ≡ None) × (action_in (x ∷ codes ":=" ∷ y ∷ codes ";" ∷ []) ≡ None)
    × (action_in (x ∷ codes ":=" ∷ codes "any" ∷ []) ≡ Some (Any x ∷ []))
unfolding action_in assignments_in assignment_in
actions = (refl, refl, refl, refl, refl)

pub written_out : action_tokens (Prev x y ∷ Any x ∷ []) ≡ x ∷ codes ":=" ∷ codes "prev" ∷ y ∷ codes ";" ∷ x ∷ codes ":=" ∷ codes "any" ∷ []
written_out = refl

-- x and y have the values 0 and 1, and z has the values y and 1
abbrev pub vars : List Domain
vars =
    record { name = x; values = o ∷ codes "1" ∷ [] } ∷ record { name = y; values = o ∷ codes "1" ∷ [] }
    ∷ record { name = codes "z"; values = y ∷ codes "1" ∷ [] } ∷ []

-- a name is a value first, then a variable with the same values, and else unknown
pub operands : (resolved vars (Equal (codes "z") y) ≡ Some (tests.Is 2 0)) × (resolved vars (Equal x y) ≡ Some (tests.Same 0 1))
    × (resolved vars (Unequal y x) ≡ Some (tests.Differ 1 0)) × (resolved vars (Equal x (codes "z")) ≡ None) × (resolved vars (Equal (codes "w") o) ≡ None)
operands = (refl, refl, refl, refl, refl)

-- so in actions; a second setting of a variable is seen by its name
pub settings : (resolved_action vars (To x (codes "1") ∷ Next y x ∷ []) ≡ Some (assigns.Value 0 1 ∷ assigns.Next 1 0 ∷ [])) × (resolved_action vars (Next x (codes "z") ∷ []) ≡ None)
    × (sets_twice (Any x ∷ To x o ∷ []) ≡ true) × (sets_twice (Any x ∷ Any y ∷ []) ≡ false)
settings = (refl, refl, refl, refl)

-- what guards say where x is 0 and y is 1
pub held : (holds_at (tests.Is 0 0) (0 ∷ 1 ∷ []) ≡ true) × (holds_at (tests.IsNot 1 1) (0 ∷ 1 ∷ []) ≡ false) × (holds_at (tests.Same 0 1) (0 ∷ 1 ∷ []) ≡ false)
    × (holds_at (tests.Differ 0 1) (0 ∷ 1 ∷ []) ≡ true) × (holds_at (tests.Or tests.False (tests.And tests.True (tests.Not tests.False))) [] ≡ true)
held = (refl, refl, refl, refl, refl)

-- `x:=y;y:=x` changes the places over, since right sides are read where the step begins; what is not assigned stays
pub changed_over : (allows (2 ∷ 2 ∷ []) (assigns.Copy 0 1 ∷ assigns.Copy 1 0 ∷ []) (0 ∷ 1 ∷ []) (1 ∷ 0 ∷ []) ≡ true)
    × (allows (2 ∷ 2 ∷ []) (assigns.Copy 0 1 ∷ assigns.Copy 1 0 ∷ []) (0 ∷ 1 ∷ []) (1 ∷ 1 ∷ []) ≡ false)
    × (allows (2 ∷ 2 ∷ []) (assigns.Value 0 1 ∷ []) (0 ∷ 1 ∷ []) (1 ∷ 1 ∷ []) ≡ true) × (allows (2 ∷ 2 ∷ []) (assigns.Value 0 1 ∷ []) (0 ∷ 1 ∷ []) (1 ∷ 0 ∷ []) ≡ false)
changed_over = (refl, refl, refl, refl)

-- `next` and `prev` go round: of three values the first is behind the last; `any` gives each
pub round : (allows (3 ∷ []) (assigns.Next 0 0 ∷ []) (2 ∷ []) (0 ∷ []) ≡ true) × (allows (3 ∷ []) (assigns.Next 0 0 ∷ []) (0 ∷ []) (1 ∷ []) ≡ true) × (allows (3 ∷ []) (assigns.Next 0 0 ∷ []) (0 ∷ []) (2 ∷ []) ≡ false)
    × (allows (3 ∷ []) (assigns.Prev 0 0 ∷ []) (0 ∷ []) (2 ∷ []) ≡ true) × (allows (3 ∷ []) (assigns.Prev 0 0 ∷ []) (2 ∷ []) (1 ∷ []) ≡ true) × (allows (3 ∷ []) (assigns.Any 0 ∷ []) (0 ∷ []) (2 ∷ []) ≡ true)
round = (refl, refl, refl, refl, refl, refl)

-- variables with other values can't be compared, and none is set twice
pub ranges : (is_in_range vars (tests.Same 0 2) ≡ false) × (is_in_range vars (tests.Same 0 1) ≡ true) × (is_action_in_range vars (assigns.Any 0 ∷ assigns.Any 0 ∷ []) ≡ false)
ranges = (refl, refl, refl)
