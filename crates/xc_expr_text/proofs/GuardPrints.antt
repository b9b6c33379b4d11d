-- The tokens of a guard that is printed are spelled as the guard, and nest no deeper than any that are.
use Rattle.std.proofs.Common.{◌≡◌, ℕ, zero, suc, ◌≤◌, max, Bool, true, false, ◌||◌, List, refl, arith}
use Rattle.std.proofs.lemmas.Bool.{and_parts, and_from}
use Rattle.xc_expr.specs.Written.{Written, True, False, Equal, Unequal, Not, And, Or, Level, Sum, Product, Basic, IsSpelled}
use Rattle.xc_forms.specs.VariableNames.{is_variable_name, is_value_name}
use Rattle.xc_expr.specs.Written.IsSpelled.{truth, falsity, equal, unequal, negated, enclosed, factor, and, summand, or}
use Rattle.xc_expr_text.specs.Printing.{is_and, is_or, is_joined, bracketed, guard_tokens}
use Rattle.xc_expr_text.specs.Writable.{has_fit_names, deeper_if, depth_of}

-- the depth of a guard in what stands between two `|`, between two `&`, and alone
abbrev depth_at : Level → Written → ℕ
depth_at Sum g = depth_of g
depth_at Product g = deeper_if (is_or g) (depth_of g)
depth_at Basic g = deeper_if (is_joined g) (depth_of g)

-- brackets go at most one deeper
deeper_by_one : (b : Bool) (n d : ℕ) → n ≤ d → deeper_if b n ≤ suc d
deeper_by_one true n d h = omega arith
deeper_by_one false n d h = omega arith

-- a sum is no deeper than a product, and that no deeper than what stands alone
sum_least : (b : Bool) (n d : ℕ) → deeper_if b n ≤ d → n ≤ d
sum_least true n d h = omega arith
sum_least false n d h = h

product_less : (a b : Bool) (n d : ℕ) → deeper_if (a || b) n ≤ d → deeper_if b n ≤ d
product_less true true n d h = h
product_less true false n d h = omega arith
product_less false b n d h = h

-- both of two numbers are below a bound
both_below : (m n d : ℕ) → m ≤ d → n ≤ d → max m n ≤ d
both_below m n d h k = omega arith

below_left : (m n d : ℕ) → max m n ≤ d → m ≤ d
below_left m n d h = omega arith

below_right : (m n d : ℕ) → max m n ≤ d → n ≤ d
below_right m n d h = omega arith

-- tokens that are spelled as a guard are no less deep than its print
pub spelled_deep : (l : Level) (d : ℕ) (tokens : List (List ℕ)) (g : Written) → IsSpelled l d tokens g → depth_at l g ≤ d
spelled_deep _ _ _ _ (truth d) = omega arith
spelled_deep _ _ _ _ (falsity d) = omega arith
spelled_deep _ _ _ _ (equal d x w v n) = omega arith
spelled_deep _ _ _ _ (unequal d x w v n) = omega arith
spelled_deep _ _ _ _ (negated d tokens g s) = let h = spelled_deep Basic d tokens g s in omega arith
spelled_deep _ _ _ _ (enclosed d tokens g s) = deeper_by_one (is_joined g) (depth_of g) d (spelled_deep Sum d tokens g s)
spelled_deep _ _ _ _ (factor d tokens g s) = product_less (is_and g) (is_or g) (depth_of g) d (spelled_deep Basic d tokens g s)
spelled_deep _ _ _ _ (and d left right g h s t) = both_below (depth_at Product g) (depth_at Basic h) d (spelled_deep Product d left g s) (spelled_deep Basic d right h t)
spelled_deep _ _ _ _ (summand d tokens g s) = sum_least (is_or g) (depth_of g) d (spelled_deep Product d tokens g s)
spelled_deep _ _ _ _ (or d left right g h s t) = both_below (depth_of g) (depth_at Product h) d (spelled_deep Sum d left g s) (spelled_deep Product d right h t)

-- the names of a guard that is spelled are fit
pub spelled_names : (l : Level) (d : ℕ) (tokens : List (List ℕ)) (g : Written) → IsSpelled l d tokens g → has_fit_names g ≡ true
spelled_names _ _ _ _ (truth d) = refl
spelled_names _ _ _ _ (falsity d) = refl
spelled_names _ _ _ _ (equal d x w v n) = and_from (is_variable_name x) (is_value_name w) v n
spelled_names _ _ _ _ (unequal d x w v n) = and_from (is_variable_name x) (is_value_name w) v n
spelled_names _ _ _ _ (negated d tokens g s) = spelled_names Basic d tokens g s
spelled_names _ _ _ _ (enclosed d tokens g s) = spelled_names Sum d tokens g s
spelled_names _ _ _ _ (factor d tokens g s) = spelled_names Basic d tokens g s
spelled_names _ _ _ _ (and d left right g h s t) = and_from (has_fit_names g) (has_fit_names h) (spelled_names Product d left g s) (spelled_names Basic d right h t)
spelled_names _ _ _ _ (summand d tokens g s) = spelled_names Product d tokens g s
spelled_names _ _ _ _ (or d left right g h s t) = and_from (has_fit_names g) (has_fit_names h) (spelled_names Sum d left g s) (spelled_names Product d right h t)

-- where a guard stands without brackets
abbrev level_of : Written → Level
level_of True = Basic
level_of False = Basic
level_of (Equal x w) = Basic
level_of (Unequal x w) = Basic
level_of (Not g) = Basic
level_of (And g h) = Product
level_of (Or g h) = Sum

-- its tokens are spelled so there, at each depth that is enough
abbrev IsPrinted : Written → Type 0
IsPrinted g = (d : ℕ) → depth_of g ≤ d → IsSpelled (level_of g) d (guard_tokens g) g

-- brackets around a sum, at a depth that allows them
boxed : (g : Written) (d : ℕ) → suc (depth_of g) ≤ d → ((e : ℕ) → depth_of g ≤ e → IsSpelled Sum e (guard_tokens g) g) → IsSpelled Basic d (bracketed true (guard_tokens g)) g
boxed g zero h p = absurd (omega arith)
boxed g (suc d) h p = enclosed d (guard_tokens g) g (p d (omega arith))

-- and so they are elsewhere, in the brackets that are needed there
in_sum : (g : Written) (d : ℕ) → IsPrinted g → depth_at Sum g ≤ d → IsSpelled Sum d (guard_tokens g) g
in_sum True d p h = summand d _ _ (factor d _ _ (p d h))
in_sum False d p h = summand d _ _ (factor d _ _ (p d h))
in_sum (Equal x w) d p h = summand d _ _ (factor d _ _ (p d h))
in_sum (Unequal x w) d p h = summand d _ _ (factor d _ _ (p d h))
in_sum (Not g) d p h = summand d _ _ (factor d _ _ (p d h))
in_sum (And g k) d p h = summand d _ _ (p d h)
in_sum (Or g k) d p h = p d h

in_product : (g : Written) (d : ℕ) → IsPrinted g → depth_at Product g ≤ d → IsSpelled Product d (bracketed (is_or g) (guard_tokens g)) g
in_product True d p h = factor d _ _ (p d h)
in_product False d p h = factor d _ _ (p d h)
in_product (Equal x w) d p h = factor d _ _ (p d h)
in_product (Unequal x w) d p h = factor d _ _ (p d h)
in_product (Not g) d p h = factor d _ _ (p d h)
in_product (And g k) d p h = p d h
in_product (Or g k) d p h = factor d _ _ (boxed (Or g k) d h p)

alone : (g : Written) (d : ℕ) → IsPrinted g → depth_at Basic g ≤ d → IsSpelled Basic d (bracketed (is_joined g) (guard_tokens g)) g
alone True d p h = p d h
alone False d p h = p d h
alone (Equal x w) d p h = p d h
alone (Unequal x w) d p h = p d h
alone (Not g) d p h = p d h
alone (And g k) d p h = boxed (And g k) d h (λ e low. summand e _ _ (p e low))
alone (Or g k) d p h = boxed (Or g k) d h p

-- `!` and what it stands before
negated_at : (g : Written) (d : ℕ) → IsPrinted g → suc (depth_at Basic g) ≤ d → IsSpelled Basic d (guard_tokens (Not g)) (Not g)
negated_at g zero p h = absurd (omega arith)
negated_at g (suc d) p h = negated d _ g (alone g d p (omega arith))

-- the print of a guard with fit names is spelled as the guard
pub printed : (g : Written) → has_fit_names g ≡ true → IsPrinted g
printed True n d h = truth d
printed False n d h = falsity d
printed (Equal x w) n d h = let names = and_parts (is_variable_name x) (is_value_name w) n in equal d x w names.0 names.1
printed (Unequal x w) n d h = let names = and_parts (is_variable_name x) (is_value_name w) n in unequal d x w names.0 names.1
printed (Not g) n d h = negated_at g d (printed g n) h
printed (And g k) n d h =
    let names = and_parts (has_fit_names g) (has_fit_names k) n in
    and d _ _ g k (in_product g d (printed g names.0) (below_left (depth_at Product g) (depth_at Basic k) d h)) (alone k d (printed k names.1) (below_right (depth_at Product g) (depth_at Basic k) d h))
printed (Or g k) n d h =
    let names = and_parts (has_fit_names g) (has_fit_names k) n in
    or d _ _ g k (in_sum g d (printed g names.0) (below_left (depth_of g) (depth_at Product k) d h)) (in_product k d (printed k names.1) (below_right (depth_of g) (depth_at Product k) d h))

pub printed_sum : (g : Written) (d : ℕ) → has_fit_names g ≡ true → depth_of g ≤ d → IsSpelled Sum d (guard_tokens g) g
printed_sum g d n h = in_sum g d (printed g n) h
