-- Where an action goes, as a loop asks one variable after the other.
use Rattle.std.proofs.Common.{◌≡◌, ℕ, suc, ◌+◌, ◌-◌, ◌<◌, ◌≤◌, ◌&&◌, not, Bool, true, false, cond, List, [], ◌∷◌, length, Option, Some, refl, sym, ap, arith}
use Rattle.std.specs.List.{list_all, range_with_len, find}
use Rattle.xc_theory.specs.Codes.{AreDigits}
use Rattle.xc_expr.specs.Actions.{assigns, may_go, allows, assigns_twice, is_assign_in_range, is_action_in_range}
use Rattle.xc_forms.specs.Variables.{sizes_of}
use Rattle.xc_expr.proofs.Choices.{and_left, and_right}
use Rattle.xc_moves.specs.Moving.{goes_at, goes_from}
use Rattle.xc_expr.specs.declared.assign.Assign.{Assign}
use Rattle.xc_forms.specs.declared.domain.Domain.{Domain}

-- the first of some numbers, and the others
range_more : (x n : ℕ) → x < n → range_with_len x (n - x) ≡ x ∷ range_with_len (x + 1) (n - (x + 1))
range_more x n h = let e : n - x ≡ suc (n - (x + 1)) = omega arith in rw e refl

pub goes_more : (sizes : List ℕ) (action : List Assign) (from to : List ℕ) (x : ℕ) → x < length sizes → goes_from sizes action from to x ≡ (goes_at sizes action from to x && goes_from sizes action from to (x + 1))
unfolding goes_at goes_from
goes_more sizes action from to x h = ap (list_all (may_go sizes action from to)) (range_more x (length sizes) h)

pub goes_none : (sizes : List ℕ) (action : List Assign) (from to : List ℕ) (x : ℕ) → length sizes ≤ x → goes_from sizes action from to x ≡ true
unfolding goes_from
goes_none sizes action from to x h = let e : length sizes - x ≡ 0 = omega arith in rw e refl

pub goes_all : (sizes : List ℕ) (action : List Assign) (from to : List ℕ) → goes_from sizes action from to 0 ≡ allows sizes action from to
unfolding goes_from
goes_all sizes action from to = let e : length sizes - 0 ≡ length sizes = omega arith in rw e refl

-- one size for each variable
pub sizes_length : (vars : List Domain) → length (sizes_of vars) ≡ length vars
sizes_length [] = refl
sizes_length (d ∷ vars) = ap suc (sizes_length vars)

-- one digit for each size
pub digits_length : (sizes row : List ℕ) → AreDigits sizes row → length row ≡ length sizes
digits_length [] [] h = refl
digits_length [] (x ∷ row) h = absurd h
digits_length (size ∷ sizes) [] h = absurd h
digits_length (size ∷ sizes) (x ∷ row) h = ap suc (digits_length sizes row h.1)

-- what is found among elements that pass passes
first_passes : {X : Type 0} (p : X → Bool) (b : Bool) (x a : X) (rest : Option X) → p x ≡ true → cond b (Some x) rest ≡ Some a → (rest ≡ Some a → p a ≡ true) → p a ≡ true
first_passes p true x a rest h e k = let same : x ≡ a = cc in rw (sym same) h
first_passes p false x a rest h e k = k e

found_passes : {X : Type 0} (p q : X → Bool) (xs : List X) (a : X) → list_all p xs ≡ true → find q xs ≡ Some a → p a ≡ true
found_passes p q [] a h e = cc
found_passes p q (x ∷ xs) a h e = first_passes p (q x) x a (find q xs) (and_left (p x) (list_all p xs) h) e (found_passes p q xs a (and_right (p x) (list_all p xs) h))

pub found_in_range : (vars : List Domain) (action : List Assign) (x : ℕ) (a : Assign) → is_action_in_range vars action ≡ true → find (assigns x) action ≡ Some a → is_assign_in_range vars a ≡ true
found_in_range vars action x a h e =
    found_passes (is_assign_in_range vars) (assigns x) action a (and_left (list_all (is_assign_in_range vars) action) (not (assigns_twice action)) h) e
