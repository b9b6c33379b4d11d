-- A guard of known names is in range.
use Rattle.std.proofs.Common.{◌≡◌, ℕ, true, nat_lt, List, length, Option, Some, None, Result, Ok, Err, IfOk, refl, sym, subst}
use Rattle.std.specs.Option.{option_map, IfSome}
use Rattle.std.proofs.lemmas.Bool.{and_from, lt-ltb}
use Rattle.std.proofs.lemmas.Option.{none-some, same_Some}
use Rattle.xc_base.specs.declared.memory.Memory.{Memory}
use Rattle.xc_expr.proofs.KnownNames.{variable_in_range}
use Rattle.xc_expr.proofs.KnownActions.{known_value, known_peer}
use Rattle.xc_forms.specs.Variables.{are_fit}
use Rattle.xc_expr.specs.Tests.{Test, test_of, has_value, are_peers, is_in_range}
use Rattle.xc_expr.specs.Tests as tests
use Rattle.xc_expr.specs.Written.{Written, True, False, Equal, Unequal, Not, And, Or}
use Rattle.xc_expr.specs.Resolving.{then_some, both, variable, value, peer, or_peer, operand, resolved}
use Rattle.xc_forms.specs.declared.domain.Domain.{Domain}
use Rattle.xc_expr.specs.declared.guard.Guard.{Guard}

-- a variable that is found is there
variable_there : (vars : List Domain) (name : List ℕ) (x : ℕ) → variable vars name ≡ Some x → nat_lt x (length vars) ≡ true
variable_there vars name x e = lt-ltb x (length vars) (variable_in_range vars name x e)

-- what is said of a value that a variable has, or of a peer, holds of an operand
operand_by : {Y : Type 0} (Holds : Y → Type 0) (vars : List Domain) (x : ℕ) (w : List ℕ) (is same : ℕ → Y) (t : Y) → nat_lt x (length vars) ≡ true
    → ((v : ℕ) → has_value vars x v ≡ true → Holds (is v)) → ((y : ℕ) → are_peers vars x y ≡ true → Holds (same y))
    → (found other : Option ℕ) → value vars x w ≡ found → peer vars x w ≡ other → or_peer found is other same ≡ Some t → Holds t
operand_by Holds vars x w is same t h a b (Some v) other p q e = subst Holds (same_Some _ _ e) (a v (known_value vars x w v h p))
operand_by Holds vars x w is same t h a b None (Some y) p q e = subst Holds (same_Some _ _ e) (b y (known_peer vars x w y h q))
operand_by Holds vars x w is same t h a b None None p q e = absurd (none-some t e)

-- the same of an operand by its name
operand_there : {Y : Type 0} (Holds : Y → Type 0) (vars : List Domain) (x : ℕ) (w : List ℕ) (is same : ℕ → Y) (t : Y) → nat_lt x (length vars) ≡ true
    → ((v : ℕ) → has_value vars x v ≡ true → Holds (is v)) → ((y : ℕ) → are_peers vars x y ≡ true → Holds (same y)) → operand vars x w is same ≡ Some t → Holds t
operand_there Holds vars x w is same t h a b e = operand_by Holds vars x w is same t h a b (value vars x w) (peer vars x w) refl refl e

-- a test that is in range
abbrev IsInRange : List Domain → Test → Type 0
IsInRange vars t = is_in_range vars t ≡ true

-- a comparison is in range
comparison_range : (vars : List Domain) (name w : List ℕ) (is same : ℕ → ℕ → Test) (t : Test)
    → ((x v : ℕ) → has_value vars x v ≡ true → IsInRange vars (is x v)) → ((x y : ℕ) → are_peers vars x y ≡ true → IsInRange vars (same x y))
    → (o : Option ℕ) → variable vars name ≡ o → then_some o (λ x. operand vars x w (is x) (same x)) ≡ Some t → IsInRange vars t
comparison_range vars name w is same t a b None p e = absurd (none-some t e)
comparison_range vars name w is same t a b (Some x) p e = operand_there (IsInRange vars) vars x w (is x) (same x) t (variable_there vars name x p) (a x) (b x) e

-- a negation is where the guard is
not_range : (vars : List Domain) (t : Test) (o : Option Test) → ((u : Test) → o ≡ Some u → IsInRange vars u) → option_map tests.Not o ≡ Some t → IsInRange vars t
not_range vars t None h e = absurd (none-some t e)
not_range vars t (Some u) h e = subst (IsInRange vars) (same_Some _ _ e) (h u refl)

-- two guards joined are where both are
both_range : (vars : List Domain) (join : Test → Test → Test) (t : Test) (o p : Option Test) → ((u v : Test) → IsInRange vars u → IsInRange vars v → IsInRange vars (join u v))
    → ((u : Test) → o ≡ Some u → IsInRange vars u) → ((v : Test) → p ≡ Some v → IsInRange vars v) → both join o p ≡ Some t → IsInRange vars t
both_range vars join t None p j h k e = absurd (none-some t e)
both_range vars join t (Some u) None j h k e = absurd (none-some t e)
both_range vars join t (Some u) (Some v) j h k e = subst (IsInRange vars) (same_Some _ _ e) (j u v (h u refl) (k v refl))

-- a guard of known names is
pub guard_in_range : (vars : List Domain) (g : Written) (test : Test) → resolved vars g ≡ Some test → is_in_range vars test ≡ true
guard_in_range vars True t e = subst (IsInRange vars) (same_Some _ _ e) refl
guard_in_range vars False t e = subst (IsInRange vars) (same_Some _ _ e) refl
guard_in_range vars (Equal name w) t e = comparison_range vars name w tests.Is tests.Same t (λ x v h. h) (λ x y h. h) (variable vars name) refl e
guard_in_range vars (Unequal name w) t e = comparison_range vars name w tests.IsNot tests.Differ t (λ x v h. h) (λ x y h. h) (variable vars name) refl e
guard_in_range vars (Not g) t e = not_range vars t (resolved vars g) (λ u h. guard_in_range vars g u h) e
guard_in_range vars (And g h) t e = both_range vars tests.And t (resolved vars g) (resolved vars h) (λ u v a b. and_from _ _ a b) (λ u p. guard_in_range vars g u p) (λ v p. guard_in_range vars h v p) e
guard_in_range vars (Or g h) t e = both_range vars tests.Or t (resolved vars g) (resolved vars h) (λ u v a b. and_from _ _ a b) (λ u p. guard_in_range vars g u p) (λ v p. guard_in_range vars h v p) e

-- the same, of fit variables
pub resolved_in_range : (vars : List Domain) (g : Written) (test : Test) → are_fit vars ≡ true → resolved vars g ≡ Some test → is_in_range vars test ≡ true
resolved_in_range vars g test fit e = guard_in_range vars g test e

-- the same of a guard of the code
known_by : (vars : List Domain) (g : Written) (o : Option Guard) → option_map test_of o ≡ resolved vars g → IfSome o (λ h. is_in_range vars (test_of h) ≡ true)
known_by vars g None e = tt
known_by vars g (Some h) e = guard_in_range vars g (test_of h) (sym e)

-- the same of what a call gives
pub known_in_range : (vars : List Domain) (g : Written) (r : Result (Option Guard) Memory) → IfOk r (λ o. option_map test_of o ≡ resolved vars g) → IfOk r (λ o. IfSome o (λ h. is_in_range vars (test_of h) ≡ true))
known_in_range vars g (Ok o) e = known_by vars g o e
known_in_range vars g (Err m) e = tt
