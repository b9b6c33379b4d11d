-- Places as names, and names as places again.
use Rattle.std.proofs.Common.{◌≡◌, ℕ, ◌<◌, ◌&&◌, Bool, true, false, nat_lt, if◌then◌else◌, List, [], length, Option, Some, None, refl, ◌∙◌, ap, subst, arith}
use Rattle.std.specs.List.{list_all, position}
use Rattle.std.specs.Str.{bytes_eq}
use Rattle.std.proofs.lemmas.Bool.{and_parts, both_ways, not-true, not_from_false, lt-ltb, ltb-true}
use Rattle.std.proofs.lemmas.List.Sums.{AllPass-from_list_all}
use Rattle.std.proofs.lemmas.Option.{none-some, same_Some}
use Rattle.xc_base.specs.Names.{are_same, is_among, has_twice, name_at, place_of}
use Rattle.xc_base.proofs.Naming.{among_at, among_in_range, place_of-name_at, found_in_range}
use Rattle.xc_expr.proofs.Choices.{then_some_is, if_is}
use Rattle.xc_expr.proofs.KnownNames.{names_length, found_at}
use Rattle.xc_forms.specs.Variables.{names_of, values_at, is_domain, are_fit}
use Rattle.xc_expr.specs.Tests.{has_value, are_peers}
use Rattle.xc_expr.specs.Resolving.{variable, value, peer, or_peer, operand}
use Rattle.xc_expr_text.specs.Printing.{variable_name, value_name}
use Rattle.xc_expr_text.specs.Writable.{is_no_value}
use Rattle.xc_forms.specs.declared.domain.Domain.{Domain}

-- a name among names of which no two are the same is found at its place
found_there : (names : List (List ℕ)) (i : ℕ) → has_twice names ≡ false → i < length names → position (bytes_eq (name_at names i)) names ≡ Some i
found_there names i h within = rw (place_of-name_at names i h within, lt-ltb i (length names) within) refl

-- a name that is not among names is not found, and one that is not found is not among them
not_found_by : (names : List (List ℕ)) (name : List ℕ) (o : Option ℕ) → is_among names name ≡ false → position (bytes_eq name) names ≡ o → o ≡ None
not_found_by names name None h e = refl
not_found_by names name (Some k) h e =
    let among = among_at names k (found_in_range names name k e) in
    absurd (both_ways (is_among names name) h (subst (λ (n : List ℕ). is_among names n ≡ true) (found_at names name k e) among))

not_found : (names : List (List ℕ)) (name : List ℕ) → is_among names name ≡ false → position (bytes_eq name) names ≡ None
not_found names name h = not_found_by names name (position (bytes_eq name) names) h refl

absent_by : (names : List (List ℕ)) (name : List ℕ) (b : Bool) → is_among names name ≡ b → position (bytes_eq name) names ≡ None → b ≡ false
absent_by names name true h e =
    let found : position (bytes_eq name) names ≡ Some (place_of names name) = rw (lt-ltb (place_of names name) (length names) (among_in_range names name h)) refl in
    cc
absent_by names name false h e = refl

absent : (names : List (List ℕ)) (name : List ℕ) → position (bytes_eq name) names ≡ None → is_among names name ≡ false
absent names name e = absent_by names name (is_among names name) refl e

-- a variable that a name stands for has that name, and so has one with the same values as another
pub variable_back : (vars : List Domain) (name : List ℕ) (x : ℕ) → variable vars name ≡ Some x → variable_name vars x ≡ name
variable_back vars name x e = found_at (names_of vars) name x e

pub peer_back : (vars : List Domain) (x : ℕ) (name : List ℕ) (y : ℕ) → peer vars x name ≡ Some y → variable_name vars y ≡ name
peer_back vars x name y e =
    let found = then_some_is (variable vars name) (λ (z : ℕ). if are_same (values_at vars x) (values_at vars z) then Some z else None) y e in
    let same = if_is (are_same (values_at vars x) (values_at vars found.0)) found.0 y found.2 in
    variable_back vars name y (found.1 ∙ ap Some same.0)

-- what an operand's name stands for has that name
pub operand_back : {Y : Type 0} (Holds : Y → Type 0) (vars : List Domain) (x : ℕ) (w : List ℕ) (is same : ℕ → Y) (t : Y)
    → ((v : ℕ) → value_name vars x v ≡ w → Holds (is v)) → ((y : ℕ) → variable_name vars y ≡ w → is_no_value vars x y ≡ true → Holds (same y))
    → (found other : Option ℕ) → value vars x w ≡ found → peer vars x w ≡ other → or_peer found is other same ≡ Some t → Holds t
operand_back Holds vars x w is same t a b (Some v) other p q e = subst Holds (same_Some _ _ e) (a v (found_at (values_at vars x) w v p))
operand_back Holds vars x w is same t a b None (Some y) p q e =
    let named = peer_back vars x w y q in
    let clear : is_no_value vars x y ≡ true = not_from_false (is_among (values_at vars x) (variable_name vars y)) (ap (is_among (values_at vars x)) named ∙ absent (values_at vars x) w p) in
    subst Holds (same_Some _ _ e) (b y named clear)
operand_back Holds vars x w is same t a b None None p q e = absurd (none-some t e)

-- the parts of what variables are fit by, and of what is in range
pub value_there : (vars : List Domain) (x v : ℕ) → has_value vars x v ≡ true → (x < length vars) × (v < length (values_at vars x))
value_there vars x v h =
    let parts = and_parts (nat_lt x (length vars)) (nat_lt v (length (values_at vars x))) h in
    (ltb-true x (length vars) parts.0, ltb-true v (length (values_at vars x)) parts.1)

pub peers_there : (vars : List Domain) (x y : ℕ) → are_peers vars x y ≡ true → (x < length vars) × (y < length vars) × (are_same (values_at vars x) (values_at vars y) ≡ true)
peers_there vars x y h =
    let parts = and_parts (nat_lt x (length vars) && nat_lt y (length vars)) (are_same (values_at vars x) (values_at vars y)) h in
    let low = and_parts (nat_lt x (length vars)) (nat_lt y (length vars)) parts.0 in
    (ltb-true x (length vars) low.0, ltb-true y (length vars) low.1, parts.1)

module _ (vars : List Domain) (fit : are_fit vars ≡ true) where
  pub names_differ : has_twice (names_of vars) ≡ false
  names_differ = not-true (has_twice (names_of vars)) (and_parts _ _ (and_parts _ _ (and_parts _ _ fit).0).0).1

  domains : list_all is_domain vars ≡ true
  domains = (and_parts _ _ (and_parts _ _ fit).0).1

  values_differ : (x : ℕ) → x < length vars → has_twice (values_at vars x) ≡ false
  values_differ x h = not-true (has_twice (values_at vars x)) (and_parts _ _ (AllPass-from_list_all is_domain vars domains x (record { name = []; values = [] }) h)).1

  -- the name of a variable, of a value and of a variable with the same values stand for these
  pub variable_known : (x : ℕ) → x < length vars → variable vars (variable_name vars x) ≡ Some x
  variable_known x h = found_there (names_of vars) x names_differ (omega (arith, names_length vars))

  pub value_known : (x v : ℕ) → has_value vars x v ≡ true → value vars x (value_name vars x v) ≡ Some v
  value_known x v h = let there = value_there vars x v h in found_there (values_at vars x) v (values_differ x there.0) there.1

  pub peer_known : (x y : ℕ) → are_peers vars x y ≡ true → peer vars x (variable_name vars y) ≡ Some y
  peer_known x y h = let there = peers_there vars x y h in rw (variable_known y there.1, there.2) refl

  -- so does an operand
  pub value_operand : {Y : Type 0} (x v : ℕ) (is same : ℕ → Y) → has_value vars x v ≡ true → operand vars x (value_name vars x v) is same ≡ Some (is v)
  value_operand x v is same h = rw (value_known x v h) refl

  pub peer_operand : {Y : Type 0} (x y : ℕ) (is same : ℕ → Y) → are_peers vars x y ≡ true → is_no_value vars x y ≡ true → operand vars x (variable_name vars y) is same ≡ Some (same y)
  peer_operand x y is same h clear =
      let none : value vars x (variable_name vars y) ≡ None = not_found (values_at vars x) (variable_name vars y) (not-true _ clear) in
      rw (none, peer_known x y h) refl
