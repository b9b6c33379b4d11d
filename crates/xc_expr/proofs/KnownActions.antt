-- Actions with known names are in range.
use Rattle.std.proofs.Common.{◌≡◌, ℕ, ◌&&◌, not, ◌==◌, nat_lt, true, false, if◌then◌else◌, List, [], ◌∷◌, map, length, Option, Some, None, refl, sym, ◌∙◌, ap, subst}
use Rattle.std.specs.List.{list_all, list_any}
use Rattle.std.specs.Option.{option_map}
use Rattle.std.specs.Str.{bytes_eq}
use Rattle.std.proofs.lemmas.Bool.{lt-ltb, eqb-true, both_ways}
use Rattle.xc_base.specs.Names.{are_same, is_among, name_at}
use Rattle.xc_base.proofs.Naming.{found_in_range, bytes_refl, or_false_left, or_false_right}
use Rattle.xc_expr.proofs.Choices.{both_true, both_false, is_false, then_some_is, both_is, map_is, if_is}
use Rattle.xc_expr.proofs.KnownNames.{variable_in_range, found_at}
use Rattle.xc_forms.specs.Variables.{names_of, values_at}
use Rattle.xc_expr.specs.Tests.{has_value, are_peers}
use Rattle.xc_expr.specs.Actions.{assigned, assigns, assigns_twice, is_assign_in_range}
use Rattle.xc_expr.specs.Written.{Assigned, To, Next, Prev, Any}
use Rattle.xc_expr.specs.Resolving.{variable, value, peer, operand, or_peer, resolved_assignment, resolved_action, set_name, sets_twice}
use Rattle.xc_expr.specs.Laws.{KnownActionsAreInRange}
use Rattle.xc_expr.specs.declared.assign.Assign.{Assign}
use Rattle.xc_expr.specs.declared.assign.Assign.TheVariants as variants
use Rattle.xc_forms.specs.declared.domain.Domain.{Domain}

-- a variable, a value and a peer that are known are there
there : (vars : List Domain) (name : List ℕ) (x : ℕ) → variable vars name ≡ Some x → nat_lt x (length vars) ≡ true
there vars name x h = lt-ltb x (length vars) (variable_in_range vars name x h)

pub known_value : (vars : List Domain) (x : ℕ) (w : List ℕ) (v : ℕ) → nat_lt x (length vars) ≡ true → value vars x w ≡ Some v → has_value vars x v ≡ true
known_value vars x w v h e = both_true (nat_lt x (length vars)) (nat_lt v (length (values_at vars x))) h (lt-ltb v (length (values_at vars x)) (found_in_range (values_at vars x) w v e))

pub known_peer : (vars : List Domain) (x : ℕ) (w : List ℕ) (y : ℕ) → nat_lt x (length vars) ≡ true → peer vars x w ≡ Some y → are_peers vars x y ≡ true
known_peer vars x w y h e =
    let found = then_some_is (variable vars w) (λ (z : ℕ). if are_same (values_at vars x) (values_at vars z) then Some z else None) y e in
    let same = if_is (are_same (values_at vars x) (values_at vars found.0)) found.0 y found.2 in
    let known : variable vars w ≡ Some y = found.1 ∙ ap Some same.0 in
    both_true (nat_lt x (length vars) && nat_lt y (length vars)) (are_same (values_at vars x) (values_at vars y))
    (both_true (nat_lt x (length vars)) (nat_lt y (length vars)) h (there vars w y known))
    (subst (λ (z : ℕ). are_same (values_at vars x) (values_at vars z) ≡ true) same.0 same.1)

-- an assignment of the variable x that is in range
abbrev AssignsInRange : List Domain → ℕ → Assign → Type 0
AssignsInRange vars x b = (assigned b ≡ x) × (is_assign_in_range vars b ≡ true)

value_or_copy : (vars : List Domain) (x : ℕ) (b : Assign) (o p : Option ℕ) → ((v : ℕ) → o ≡ Some v → has_value vars x v ≡ true) → ((y : ℕ) → p ≡ Some y → are_peers vars x y ≡ true) → or_peer o (variants.Value x) p (variants.Copy x) ≡ Some b → AssignsInRange vars x b
value_or_copy vars x b (Some v) p f g e = let same : variants.Value x v ≡ b = cc in subst (AssignsInRange vars x) same (refl, f v refl)
value_or_copy vars x b None None f g e = cc
value_or_copy vars x b None (Some y) f g e = let same : variants.Copy x y ≡ b = cc in subst (AssignsInRange vars x) same (refl, g y refl)

-- the variable of an assignment is that of its name
pub record IsKnown (vars : List Domain) (a : Assigned) (b : Assign) : Type 0 where
  pub stands : variable vars (set_name a) ≡ Some (assigned b)
  pub range : is_assign_in_range vars b ≡ true

known_at : (vars : List Domain) (a : Assigned) (b : Assign) (x : ℕ) → variable vars (set_name a) ≡ Some x → AssignsInRange vars x b → IsKnown vars a b
known_at vars a b x h k = record { stands = h ∙ ap Some (sym k.0); range = k.1 }

pub known_assignment : (vars : List Domain) (a : Assigned) (b : Assign) → resolved_assignment vars a ≡ Some b → IsKnown vars a b
known_assignment vars (To name w) b e =
    let found = then_some_is (variable vars name) (λ (x : ℕ). operand vars x w (variants.Value x) (variants.Copy x)) b e in
    let x = found.0 in
    let h = there vars name x found.1 in
    known_at vars (To name w) b x found.1 (value_or_copy vars x b (value vars x w) (peer vars x w) (λ v. known_value vars x w v h) (λ y. known_peer vars x w y h) found.2)
known_assignment vars (Next name w) b e =
    let found = then_some_is (variable vars name) (λ (x : ℕ). option_map (variants.Next x) (peer vars x w)) b e in
    let x = found.0 in
    let from = map_is (variants.Next x) (peer vars x w) b found.2 in
    known_at vars (Next name w) b x found.1 (subst (AssignsInRange vars x) from.2 (refl, known_peer vars x w from.0 (there vars name x found.1) from.1))
known_assignment vars (Prev name w) b e =
    let found = then_some_is (variable vars name) (λ (x : ℕ). option_map (variants.Prev x) (peer vars x w)) b e in
    let x = found.0 in
    let from = map_is (variants.Prev x) (peer vars x w) b found.2 in
    known_at vars (Prev name w) b x found.1 (subst (AssignsInRange vars x) from.2 (refl, known_peer vars x w from.0 (there vars name x found.1) from.1))
known_assignment vars (Any name) b e =
    let from = map_is variants.Any (variable vars name) b e in
    known_at vars (Any name) b from.0 from.1 (subst (AssignsInRange vars from.0) from.2 (refl, there vars name from.0 from.1))

-- the assignments of an action, the first and the others
action_split : (vars : List Domain) (a : Assigned) (more : List Assigned) (bs : List Assign) → resolved_action vars (a ∷ more) ≡ Some bs → (b : Assign) × (rest : List Assign) × (resolved_assignment vars a ≡ Some b) × (resolved_action vars more ≡ Some rest) × (b ∷ rest ≡ bs)
action_split vars a more bs e = both_is (λ b rest. b ∷ rest) (resolved_assignment vars a) (resolved_action vars more) bs e

all_in_range : (vars : List Domain) (action : List Assigned) (bs : List Assign) → resolved_action vars action ≡ Some bs → list_all (is_assign_in_range vars) bs ≡ true
all_in_range vars [] bs e = let same : [] ≡ bs = cc in subst (λ (xs : List Assign). list_all (is_assign_in_range vars) xs ≡ true) same refl
all_in_range vars (a ∷ more) bs e =
    let split = action_split vars a more bs e in
    subst (λ (xs : List Assign). list_all (is_assign_in_range vars) xs ≡ true) split.4
    (both_true (is_assign_in_range vars split.0) (list_all (is_assign_in_range vars) split.1) (known_assignment vars a split.0 split.2).range (all_in_range vars more split.1 split.3))

-- names of one variable are the same
same_name : (vars : List Domain) (n m : List ℕ) (x y : ℕ) → variable vars n ≡ Some x → variable vars m ≡ Some y → y ≡ x → bytes_eq n m ≡ true
same_name vars n m x y h k e =
    let same : n ≡ m = sym (found_at (names_of vars) n x h) ∙ ap (name_at (names_of vars)) (sym e) ∙ found_at (names_of vars) m y k in
    subst (λ (t : List ℕ). bytes_eq n t ≡ true) same (bytes_refl n)

-- a variable whose name is not set is not assigned
not_assigned : (vars : List Domain) (n : List ℕ) (x : ℕ) (action : List Assigned) (bs : List Assign) → variable vars n ≡ Some x → resolved_action vars action ≡ Some bs → is_among (map set_name action) n ≡ false → list_any (assigns x) bs ≡ false
not_assigned vars n x [] bs h e k = let same : [] ≡ bs = cc in subst (λ (xs : List Assign). list_any (assigns x) xs ≡ false) same refl
not_assigned vars n x (a ∷ more) bs h e k =
    let split = action_split vars a more bs e in
    let stands = (known_assignment vars a split.0 split.2).stands in
    let apart : bytes_eq n (set_name a) ≡ false = or_false_left (bytes_eq n (set_name a)) (is_among (map set_name more) n) k in
    let here : (assigned split.0 == x) ≡ false = is_false (assigned split.0 == x) (λ t. both_ways (bytes_eq n (set_name a)) apart (same_name vars n (set_name a) x (assigned split.0) h stands (eqb-true (assigned split.0) x t))) in
    subst (λ (xs : List Assign). list_any (assigns x) xs ≡ false) split.4
    (both_false (assigned split.0 == x) (list_any (assigns x) split.1) here
    (not_assigned vars n x more split.1 h split.3 (or_false_right (bytes_eq n (set_name a)) (is_among (map set_name more) n) k)))

-- where no name is set twice no variable is assigned twice
assigned_once : (vars : List Domain) (action : List Assigned) (bs : List Assign) → sets_twice action ≡ false → resolved_action vars action ≡ Some bs → assigns_twice bs ≡ false
assigned_once vars [] bs once e = let same : [] ≡ bs = cc in subst (λ (xs : List Assign). assigns_twice xs ≡ false) same refl
assigned_once vars (a ∷ more) bs once e =
    let split = action_split vars a more bs e in
    let stands = (known_assignment vars a split.0 split.2).stands in
    let apart = or_false_left (is_among (map set_name more) (set_name a)) (sets_twice more) once in
    subst (λ (xs : List Assign). assigns_twice xs ≡ false) split.4
    (both_false (list_any (assigns (assigned split.0)) split.1) (assigns_twice split.1)
    (not_assigned vars (set_name a) (assigned split.0) more split.1 stands split.3 apart)
    (assigned_once vars more split.1 (or_false_right (is_among (map set_name more) (set_name a)) (sets_twice more) once) split.3))

pub known_action_in_range : KnownActionsAreInRange
known_action_in_range vars action bs fit once e =
    both_true (list_all (is_assign_in_range vars) bs) (not (assigns_twice bs)) (all_in_range vars action bs e) (ap not (assigned_once vars action bs once e))
