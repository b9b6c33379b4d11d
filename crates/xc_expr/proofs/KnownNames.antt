-- Names that stand for variables and for values.
use Rattle.std.proofs.Common.{◌≡◌, ℕ, suc, ◌+◌, ◌<◌, Bool, true, false, cond, not, nat_lt, List, [], ◌∷◌, length, Some, None, refl, sym, ◌∙◌, ap, arith}
use Rattle.std.specs.List.{position, position_or_len}
use Rattle.std.specs.Str.{bytes_eq}
use Rattle.std.proofs.lemmas.Bool.{ltb-true}
use Rattle.std.proofs.lemmas.List.Sums.{passes_at_first}
use Rattle.xc_base.specs.Names.{are_same, name_at}
use Rattle.xc_base.proofs.Naming.{same_bytes, found_in_range}
use Rattle.xc_expr.proofs.Choices.{and_right}
use Rattle.xc_forms.specs.Variables.{names_of}
use Rattle.xc_expr.specs.Called.{is_called}
use Rattle.xc_expr.specs.Resolving.{variable}
use Rattle.xc_forms.specs.declared.domain.Domain.{Domain}

-- where a name stands among the names of variables is where the variable stands
place_of_variable : (vars : List Domain) (name : List ℕ) → position_or_len (bytes_eq name) (names_of vars) ≡ position_or_len (is_called name) vars
place_of_variable [] name = refl
place_of_variable (d ∷ vars) name = ap (λ (n : ℕ). cond (not (bytes_eq name d.name)) (1 + n) 0) (place_of_variable vars name)

pub names_length : (vars : List Domain) → length (names_of vars) ≡ length vars
names_length [] = refl
names_length (d ∷ vars) = ap suc (names_length vars)

pub variable_is : (vars : List Domain) (name : List ℕ) → variable vars name ≡ position (is_called name) vars
variable_is vars name = rw (place_of_variable vars name, names_length vars) refl

-- a variable that has a name is there
pub variable_in_range : (vars : List Domain) (name : List ℕ) (x : ℕ) → variable vars name ≡ Some x → x < length vars
variable_in_range vars name x h = omega (arith, names_length vars, found_in_range (names_of vars) name x h)

-- a place that a search finds has the name
some_at : (m n k : ℕ) (b : Bool) → nat_lt m n ≡ b → cond b (Some m) None ≡ Some k → (m ≡ k) × (m < n)
some_at m n k true e h = let same : m ≡ k = cc in (same, omega (arith, ltb-true m n e))
some_at m n k false e h = cc

pub found_at : (names : List (List ℕ)) (name : List ℕ) (k : ℕ) → position (bytes_eq name) names ≡ Some k → name_at names k ≡ name
found_at names name k h =
    let m = position_or_len (bytes_eq name) names in
    let at = some_at m (length names) k (nat_lt m (length names)) refl h in
    ap (name_at names) (sym at.0) ∙ sym (same_bytes name (name_at names m) (passes_at_first (bytes_eq name) names [] at.1))

pub same_lengths : (xs ys : List (List ℕ)) → are_same xs ys ≡ true → length xs ≡ length ys
same_lengths [] [] h = refl
same_lengths [] (y ∷ ys) h = cc
same_lengths (x ∷ xs) [] h = cc
same_lengths (x ∷ xs) (y ∷ ys) h = ap suc (same_lengths xs ys (and_right (bytes_eq x y) (are_same xs ys) h))
