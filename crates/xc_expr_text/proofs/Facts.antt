-- Prints at small cases whose values are known from outside: a wrong definition does not check here.
use Rattle.std.proofs.Common.{◌≡◌, ℕ, zero, suc, true, false, List, [], ◌∷◌, ◌++◌, codes, refl}
use Rattle.xc_forms.specs.declared.domain.Domain.{Domain}
use Rattle.xc_expr.specs.declared.assign.Assign.TheVariants as assigns
use Rattle.xc_expr.specs.Written.{Equal, Unequal, True, False, Not, And, Or, To, Next, Prev, Any}
use Rattle.xc_expr_text.specs.Printing.{named_guard, named_action, guard_tokens}
use Rattle.xc_expr.specs.Tests as tests
use Rattle.xc_expr_text.specs.Writable.{depth_of, is_writable_guard, is_writable_action}
use Rattle.xc_expr.proofs.Facts.{x, y, o, x0, vars}

-- places by their names: a value by its variable's list, and two variables by their own names
pub named : (named_guard vars (tests.Or (tests.Not (tests.Is 2 0)) (tests.And (tests.Differ 0 1) tests.False)) ≡ Or (Not (Equal (codes "z") y)) (And (Unequal x y) False))
    × (named_guard vars (tests.And (tests.IsNot 1 1) (tests.Same 1 0)) ≡ And (Unequal y (codes "1")) (Equal y x))
    × (named_action vars (assigns.Value 0 1 ∷ assigns.Copy 1 0 ∷ assigns.Next 2 2 ∷ []) ≡ To x (codes "1") ∷ To y x ∷ Next (codes "z") (codes "z") ∷ [])
    × (named_action vars (assigns.Prev 0 1 ∷ assigns.Any 1 ∷ []) ≡ Prev x y ∷ Any y ∷ [])
named = (refl, refl, refl, refl)

-- `true` before or behind an operator, or in brackets, as tokens
abbrev before : List ℕ → List (List ℕ) → List (List ℕ)
before sign tokens = codes "true" ∷ sign ∷ tokens

abbrev behind_true : List (List ℕ) → List ℕ → List (List ℕ)
behind_true tokens sign = tokens ++ sign ∷ codes "true" ∷ []

abbrev boxed : List (List ℕ) → List (List ℕ)
boxed tokens = codes "(" ∷ tokens ++ codes ")" ∷ []

abbrev sum_tokens : List (List ℕ)
sum_tokens = codes "true" ∷ codes "|" ∷ codes "false" ∷ []

abbrev product_tokens : List (List ℕ)
product_tokens = codes "true" ∷ codes "&" ∷ codes "false" ∷ []

-- an `|` gets brackets under `&` and `!`, and on the right of `|`; an `&` under `!`, and on the right of `&`
pub brackets : (guard_tokens (And (Or True False) True) ≡ behind_true (boxed sum_tokens) (codes "&")) × (guard_tokens (And True (Or True False)) ≡ before (codes "&") (boxed sum_tokens))
    × (guard_tokens (Not (Or True False)) ≡ codes "!" ∷ boxed sum_tokens) × (guard_tokens (Or True (Or True False)) ≡ before (codes "|") (boxed sum_tokens))
    × (guard_tokens (Not (And True False)) ≡ codes "!" ∷ boxed product_tokens) × (guard_tokens (And True (And True False)) ≡ before (codes "&") (boxed product_tokens))
brackets = (refl, refl, refl, refl, refl, refl)

-- and nothing else does
pub no_brackets : (guard_tokens (Or (Or True False) True) ≡ behind_true sum_tokens (codes "|")) × (guard_tokens (And (And True False) True) ≡ behind_true product_tokens (codes "&"))
    × (guard_tokens (Or (And True False) True) ≡ behind_true product_tokens (codes "|")) × (guard_tokens (Or True (And True False)) ≡ before (codes "|") product_tokens)
    × (guard_tokens (Not (Not (Equal x o))) ≡ codes "!" ∷ codes "!" ∷ x0) × (guard_tokens (And (Not True) (Unequal x o)) ≡ codes "!" ∷ codes "true" ∷ codes "&" ∷ x ∷ codes "!=" ∷ o ∷ [])
no_brackets = (refl, refl, refl, refl, refl, refl)

-- a variable called like a value of the one before it can't be written there: x and y have the same values 0 and 1, and here x has the value y
abbrev named_alike : List Domain
named_alike = record { name = x; values = o ∷ y ∷ [] } ∷ record { name = y; values = o ∷ y ∷ [] } ∷ []

pub taken_for_values : (is_writable_guard named_alike (tests.Same 0 1) ≡ false) × (is_writable_guard named_alike (tests.Not (tests.Differ 1 1)) ≡ false)
    × (is_writable_guard named_alike (tests.Same 1 0) ≡ true) × (is_writable_guard named_alike (tests.And (tests.Is 0 1) (tests.Differ 0 0)) ≡ true)
    × (is_writable_action named_alike (assigns.Copy 0 1 ∷ []) ≡ false) × (is_writable_action named_alike (assigns.Next 0 1 ∷ assigns.Prev 1 1 ∷ []) ≡ true)
    × (is_writable_guard named_alike (tests.And (tests.Same 0 1) tests.True) ≡ false) × (is_writable_guard named_alike (tests.Or tests.True (tests.Differ 0 1)) ≡ false)
    × (is_writable_action named_alike (assigns.Copy 1 0 ∷ assigns.Any 0 ∷ []) ≡ true)
taken_for_values = (refl, refl, refl, refl, refl, refl, refl, refl, refl)

-- neither can names that are reserved: `any` is no value and no variable, and `true` is a value only
abbrev reserved : List Domain
reserved = record { name = codes "true"; values = codes "any" ∷ codes "true" ∷ [] } ∷ record { name = x; values = codes "any" ∷ codes "true" ∷ [] } ∷ []

pub not_reserved : (is_writable_guard reserved (tests.Is 1 0) ≡ false) × (is_writable_guard reserved (tests.Is 1 1) ≡ true) × (is_writable_guard reserved (tests.Is 0 1) ≡ false)
    × (is_writable_guard reserved (tests.Not (tests.IsNot 1 0)) ≡ false) × (is_writable_guard reserved (tests.And tests.True (tests.Is 1 0)) ≡ false) × (is_writable_guard reserved (tests.Or (tests.Is 1 0) tests.True) ≡ false)
    × (is_writable_action reserved (assigns.Value 1 0 ∷ []) ≡ false) × (is_writable_action reserved (assigns.Value 1 1 ∷ []) ≡ true) × (is_writable_action reserved (assigns.Any 0 ∷ []) ≡ false)
not_reserved = (refl, refl, refl, refl, refl, refl, refl, refl, refl)

-- a test with so many `!` before it
abbrev negations : ℕ → tests.Test
negations zero = tests.True
negations (suc n) = tests.Not (negations n)

-- brackets count like `!`; operators side by side do not nest; 64 around each other can be written, and 65 can't
pub depths : (depth_of (Not (And True True)) ≡ 2) × (depth_of (Not (Not True)) ≡ 2) × (depth_of (And (And (Not True) True) (Not True)) ≡ 1) × (depth_of (Or True (Or True (Not (Or True True)))) ≡ 3)
    × (depth_of (And (Or True True) True) ≡ 1) × (depth_of (Or (And True True) True) ≡ 0)
    × (is_writable_guard vars (negations 64) ≡ true) × (is_writable_guard vars (negations 65) ≡ false)
depths = (refl, refl, refl, refl, refl, refl, refl, refl)
