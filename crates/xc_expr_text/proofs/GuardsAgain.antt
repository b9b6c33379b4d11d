-- A guard that can be written is read from its print, and a guard that is read can be written.
use Rattle.std.proofs.Common.{◌≡◌, ℕ, ◌&&◌, true, nat_le, List, Some, refl, sym, ◌∙◌, ap, subst}
use Rattle.std.specs.Option.{option_map}
use Rattle.std.proofs.lemmas.Bool.{and_parts, and_from, le-leb, leb-true}
use Rattle.std.proofs.lemmas.Option.{same_Some}
use Rattle.xc_expr.proofs.Choices.{then_some_is, both_is, map_is}
use Rattle.xc_expr.proofs.GuardReading.{guard_unique}
use Rattle.xc_expr_text.proofs.GuardPrints.{spelled_deep, spelled_names, printed_sum}
use Rattle.xc_expr_text.proofs.NamedPlaces.{variable_back, operand_back, value_there, peers_there, variable_known, value_operand, peer_operand}
use Rattle.xc_expr_text.proofs.ShortPrints.{spelled_longer}
use Rattle.xc_expr_text.specs.PrintLaws.{PrintedGuardsAreRead, ReadGuardsAreWritable, TestsAreUnique, NoPrintIsLonger}
use Rattle.xc_expr_text.specs.LineParts.{IsNoLonger}
use Rattle.xc_expr_text.specs.Printing.{variable_name, value_name, named_guard, guard_tokens}
use Rattle.xc_expr.specs.Resolving.{then_some, variable, value, peer, operand, resolved}
use Rattle.xc_expr.specs.Tests.{Test, has_value, are_peers, is_in_range}
use Rattle.xc_expr.specs.Tests as tests
use Rattle.xc_forms.specs.Variables.{are_fit}
use Rattle.xc_expr_text.specs.Writable.{has_fit_names, depth_of, is_no_value, is_clear, is_writable_guard}
use Rattle.xc_expr.specs.Written.{Written, True, False, Equal, Unequal, Not, And, Or, Sum, depth_limit}
use Rattle.xc_forms.specs.declared.domain.Domain.{Domain}

-- a test says by names what was written, and takes no variable for a value
record IsNamed (vars : List Domain) (g : Written) (t : Test) : Type 0 where
  named : named_guard vars t ≡ g
  clear : is_clear vars t ≡ true

-- a comparison
compared_back : (vars : List Domain) (name w : List ℕ) (g : Written) (is same : ℕ → ℕ → Test) (t : Test)
    → ((x v : ℕ) → variable_name vars x ≡ name → value_name vars x v ≡ w → IsNamed vars g (is x v))
    → ((x y : ℕ) → variable_name vars x ≡ name → variable_name vars y ≡ w → is_no_value vars x y ≡ true → IsNamed vars g (same x y))
    → then_some (variable vars name) (λ x. operand vars x w (is x) (same x)) ≡ Some t → IsNamed vars g t
compared_back vars name w g is same t a b e =
    let found = then_some_is (variable vars name) (λ (x : ℕ). operand vars x w (is x) (same x)) t e in
    let x = found.0 in
    let named = variable_back vars name x found.1 in
    operand_back (IsNamed vars g) vars x w (is x) (same x) t (λ v. a x v named) (λ y. b x y named) (value vars x w) (peer vars x w) refl refl found.2

named_back : (vars : List Domain) (g : Written) (t : Test) → resolved vars g ≡ Some t → IsNamed vars g t
named_back vars True t e = subst (IsNamed vars True) (same_Some _ _ e) (record { named = refl; clear = refl })
named_back vars False t e = subst (IsNamed vars False) (same_Some _ _ e) (record { named = refl; clear = refl })
named_back vars (Equal name w) t e =
    compared_back vars name w (Equal name w) tests.Is tests.Same t
    (λ x v n m. record { named = rw (n, m) refl; clear = refl }) (λ x y n m c. record { named = rw (n, m) refl; clear = c }) e
named_back vars (Unequal name w) t e =
    compared_back vars name w (Unequal name w) tests.IsNot tests.Differ t
    (λ x v n m. record { named = rw (n, m) refl; clear = refl }) (λ x y n m c. record { named = rw (n, m) refl; clear = c }) e
named_back vars (Not g) t e =
    let found = map_is tests.Not (resolved vars g) t e in
    let inner = named_back vars g found.0 found.1 in
    subst (IsNamed vars (Not g)) found.2 (record { named = ap Not inner.named; clear = inner.clear })
named_back vars (And g h) t e =
    let found = both_is tests.And (resolved vars g) (resolved vars h) t e in
    let left = named_back vars g found.0 found.2 in
    let right = named_back vars h found.1 found.3 in
    subst (IsNamed vars (And g h)) found.4
    (record { named = ap (λ (k : Written). And k (named_guard vars found.1)) left.named ∙ ap (And g) right.named; clear = and_from _ _ left.clear right.clear })
named_back vars (Or g h) t e =
    let found = both_is tests.Or (resolved vars g) (resolved vars h) t e in
    let left = named_back vars g found.0 found.2 in
    let right = named_back vars h found.1 found.3 in
    subst (IsNamed vars (Or g h)) found.4
    (record { named = ap (λ (k : Written). Or k (named_guard vars found.1)) left.named ∙ ap (Or g) right.named; clear = and_from _ _ left.clear right.clear })

-- a guard that is written so can be
writable_as : (vars : List Domain) (t : Test) (g : Written) → named_guard vars t ≡ g → has_fit_names g ≡ true → nat_le (depth_of g) depth_limit ≡ true → is_clear vars t ≡ true → is_writable_guard vars t ≡ true
writable_as vars t g same names low clear =
    let fits : (has_fit_names (named_guard vars t) && nat_le (depth_of (named_guard vars t)) depth_limit) ≡ true = rw same (and_from (has_fit_names g) (nat_le (depth_of g) depth_limit) names low) in
    and_from (has_fit_names (named_guard vars t) && nat_le (depth_of (named_guard vars t)) depth_limit) (is_clear vars t) fits clear

pub read_guards_are_writable : ReadGuardsAreWritable
read_guards_are_writable vars tokens t h =
    let back = named_back vars h.guard t h.known in
    writable_as vars t h.guard back.named (spelled_names Sum depth_limit tokens h.guard h.spelled) (le-leb (depth_of h.guard) depth_limit (spelled_deep Sum depth_limit tokens h.guard h.spelled)) back.clear

-- the names of a test in range stand for it, where it takes no variable for a value
module _ (vars : List Domain) (fit : are_fit vars ≡ true) where
  value_known_as : (x v : ℕ) (is same : ℕ → ℕ → Test) → has_value vars x v ≡ true → then_some (variable vars (variable_name vars x)) (λ z. operand vars z (value_name vars x v) (is z) (same z)) ≡ Some (is x v)
  value_known_as x v is same h = rw (variable_known vars fit x (value_there vars x v h).0) (value_operand vars fit x v (is x) (same x) h)

  peer_known_as : (x y : ℕ) (is same : ℕ → ℕ → Test) → are_peers vars x y ≡ true → is_no_value vars x y ≡ true
      → then_some (variable vars (variable_name vars x)) (λ z. operand vars z (variable_name vars y) (is z) (same z)) ≡ Some (same x y)
  peer_known_as x y is same h clear = rw (variable_known vars fit x (peers_there vars x y h).0) (peer_operand vars fit x y (is x) (same x) h clear)

  guard_known : (t : Test) → is_in_range vars t ≡ true → is_clear vars t ≡ true → resolved vars (named_guard vars t) ≡ Some t
  guard_known tests.True h c = refl
  guard_known tests.False h c = refl
  guard_known (tests.Is x v) h c = value_known_as x v tests.Is tests.Same h
  guard_known (tests.IsNot x v) h c = value_known_as x v tests.IsNot tests.Differ h
  guard_known (tests.Same x y) h c = peer_known_as x y tests.Is tests.Same h c
  guard_known (tests.Differ x y) h c = peer_known_as x y tests.IsNot tests.Differ h c
  guard_known (tests.Not t) h c = ap (option_map tests.Not) (guard_known t h c)
  guard_known (tests.And t u) h c =
      let range = and_parts (is_in_range vars t) (is_in_range vars u) h in
      let clear = and_parts (is_clear vars t) (is_clear vars u) c in
      rw (guard_known t range.0 clear.0, guard_known u range.1 clear.1) refl
  guard_known (tests.Or t u) h c =
      let range = and_parts (is_in_range vars t) (is_in_range vars u) h in
      let clear = and_parts (is_clear vars t) (is_clear vars u) c in
      rw (guard_known t range.0 clear.0, guard_known u range.1 clear.1) refl

pub printed_guards_are_read : PrintedGuardsAreRead
printed_guards_are_read vars t fit range h =
    let g = named_guard vars t in
    let parts = and_parts (has_fit_names g && nat_le (depth_of g) depth_limit) (is_clear vars t) h in
    let fits = and_parts (has_fit_names g) (nat_le (depth_of g) depth_limit) parts.0 in
    record { guard = g; spelled = printed_sum g depth_limit fits.0 (leb-true (depth_of g) depth_limit fits.1); known = guard_known vars fit t range parts.1 }

-- no tokens are two tests
pub tests_are_unique : TestsAreUnique
tests_are_unique vars tokens t u h k =
    same_Some _ _ (sym h.known ∙ ap (resolved vars) (guard_unique tokens h.guard k.guard h.spelled k.spelled) ∙ k.known)

-- a guard is printed no longer than it was read
pub no_print_is_longer : NoPrintIsLonger
no_print_is_longer vars tokens t h =
    subst (λ (g : Written). IsNoLonger tokens (guard_tokens g)) (sym (named_back vars h.guard t h.known).named) (spelled_longer Sum depth_limit tokens h.guard h.spelled)
