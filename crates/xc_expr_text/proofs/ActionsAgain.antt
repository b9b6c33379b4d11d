-- An action that can be written is read from its print, and an action that is read can be written.
use Rattle.std.proofs.Common.{◌≡◌, ℕ, ◌<◌, not, ◌==◌, Bool, true, false, List, [], ◌∷◌, map, length, Some, refl, sym, ◌∙◌, ap, subst, arith}
use Rattle.std.specs.List.{list_all, list_any}
use Rattle.std.specs.Option.{option_map}
use Rattle.std.specs.Str.{bytes_eq}
use Rattle.std.proofs.lemmas.Bool.{and_parts, and_from, or_parts, or_from, not-true, eq-eqb, ltb-true, both_ways}
use Rattle.std.proofs.lemmas.Option.{same_Some}
use Rattle.xc_base.specs.Names.{is_among}
use Rattle.xc_base.proofs.Naming.{same_bytes, same_place}
use Rattle.xc_expr.proofs.ActionSpelling.{actions_are_unique}
use Rattle.xc_expr.proofs.Choices.{then_some_is, both_is, map_is}
use Rattle.xc_expr.proofs.KnownNames.{names_length}
use Rattle.xc_expr_text.proofs.NamedPlaces.{variable_back, peer_back, operand_back, value_there, peers_there, names_differ, variable_known, peer_known, value_operand, peer_operand}
use Rattle.xc_expr.specs.Actions.{assigned, assigns, is_assign_in_range, assigns_twice}
use Rattle.xc_expr_text.specs.PrintLaws.{PrintedActionsAreRead, ReadActionsAreWritable, AssignsAreUnique, ActionsKeepTheirTokens}
use Rattle.xc_expr_text.specs.Printing.{variable_name, named_assignment, named_action}
use Rattle.xc_expr.specs.Resolving.{then_some, variable, value, peer, operand, resolved_assignment, resolved_action, set_name, sets_twice}
use Rattle.xc_forms.specs.Variables.{names_of, are_fit}
use Rattle.xc_expr_text.specs.Writable.{is_clear_assignment}
use Rattle.xc_expr.specs.Written.{Assigned, To, Next, Prev, Any, has_names, action_tokens}
use Rattle.xc_expr.specs.declared.assign.Assign.{Assign}
use Rattle.xc_expr.specs.declared.assign.Assign.TheVariants as variants
use Rattle.xc_forms.specs.declared.domain.Domain.{Domain}

-- an assignment says by names what was written, and takes no variable for a value
record IsNamed (vars : List Domain) (a : Assigned) (b : Assign) : Type 0 where
  named : named_assignment vars b ≡ a
  clear : is_clear_assignment vars b ≡ true

-- a step from another variable
stepped_back : (vars : List Domain) (name w : List ℕ) (a : Assigned) (step : ℕ → ℕ → Assign) (b : Assign) → ((x y : ℕ) → variable_name vars x ≡ name → variable_name vars y ≡ w → IsNamed vars a (step x y))
    → then_some (variable vars name) (λ x. option_map (step x) (peer vars x w)) ≡ Some b → IsNamed vars a b
stepped_back vars name w a step b h e =
    let found = then_some_is (variable vars name) (λ (x : ℕ). option_map (step x) (peer vars x w)) b e in
    let other = map_is (step found.0) (peer vars found.0 w) b found.2 in
    subst (IsNamed vars a) other.2 (h found.0 other.0 (variable_back vars name found.0 found.1) (peer_back vars found.0 w other.0 other.1))

assignment_back : (vars : List Domain) (a : Assigned) (b : Assign) → resolved_assignment vars a ≡ Some b → IsNamed vars a b
assignment_back vars (To name w) b e =
    let found = then_some_is (variable vars name) (λ (x : ℕ). operand vars x w (variants.Value x) (variants.Copy x)) b e in
    let x = found.0 in
    let n = variable_back vars name x found.1 in
    operand_back (IsNamed vars (To name w)) vars x w (variants.Value x) (variants.Copy x) b
    (λ v m. record { named = rw (n, m) refl; clear = refl }) (λ y m c. record { named = rw (n, m) refl; clear = c }) (value vars x w) (peer vars x w) refl refl found.2
assignment_back vars (Next name w) b e = stepped_back vars name w (Next name w) variants.Next b (λ x y n m. record { named = rw (n, m) refl; clear = refl }) e
assignment_back vars (Prev name w) b e = stepped_back vars name w (Prev name w) variants.Prev b (λ x y n m. record { named = rw (n, m) refl; clear = refl }) e
assignment_back vars (Any name) b e =
    let found = map_is variants.Any (variable vars name) b e in
    subst (IsNamed vars (Any name)) found.2 (record { named = ap Any (variable_back vars name found.0 found.1); clear = refl })

-- the same of assignments
record AreNamed (vars : List Domain) (action : List Assigned) (bs : List Assign) : Type 0 where
  named : named_action vars bs ≡ action
  clear : list_all (is_clear_assignment vars) bs ≡ true

action_back : (vars : List Domain) (action : List Assigned) (bs : List Assign) → resolved_action vars action ≡ Some bs → AreNamed vars action bs
action_back vars [] bs e = subst (AreNamed vars []) (same_Some _ _ e) (record { named = refl; clear = refl })
action_back vars (a ∷ more) bs e =
    let found = both_is (λ (b : Assign) (rest : List Assign). b ∷ rest) (resolved_assignment vars a) (resolved_action vars more) bs e in
    let first = assignment_back vars a found.0 found.2 in
    let others = action_back vars more found.1 found.3 in
    subst (AreNamed vars (a ∷ more)) found.4
    (record {
      named = ap (λ (b : Assigned). b ∷ named_action vars found.1) first.named ∙ ap (λ (rest : List Assigned). a ∷ rest) others.named;
      clear = and_from (is_clear_assignment vars found.0) (list_all (is_clear_assignment vars) found.1) first.clear others.clear;
    })

pub read_actions_are_writable : ReadActionsAreWritable
read_actions_are_writable vars tokens bs h =
    let back = action_back vars h.action bs h.known in
    and_from (list_all has_names (named_action vars bs)) (list_all (is_clear_assignment vars) bs) (ap (list_all has_names) back.named ∙ h.spelled.named) back.clear

-- the variable of an assignment in range is there, and its name is the name that is set
assigned_there : (vars : List Domain) (b : Assign) → is_assign_in_range vars b ≡ true → assigned b < length vars
assigned_there vars (variants.Value x v) h = (value_there vars x v h).0
assigned_there vars (variants.Copy x y) h = (peers_there vars x y h).0
assigned_there vars (variants.Next x y) h = (peers_there vars x y h).0
assigned_there vars (variants.Prev x y) h = (peers_there vars x y h).0
assigned_there vars (variants.Any x) h = ltb-true x (length vars) h

name_set : (vars : List Domain) (b : Assign) → set_name (named_assignment vars b) ≡ variable_name vars (assigned b)
name_set vars (variants.Value x v) = refl
name_set vars (variants.Copy x y) = refl
name_set vars (variants.Next x y) = refl
name_set vars (variants.Prev x y) = refl
name_set vars (variants.Any x) = refl

module _ (vars : List Domain) (fit : are_fit vars ≡ true) where
  -- the names of an assignment in range stand for it, where it takes no variable for a value
  assignment_known : (b : Assign) → is_assign_in_range vars b ≡ true → is_clear_assignment vars b ≡ true → resolved_assignment vars (named_assignment vars b) ≡ Some b
  assignment_known (variants.Value x v) h c = rw (variable_known vars fit x (value_there vars x v h).0) (value_operand vars fit x v (variants.Value x) (variants.Copy x) h)
  assignment_known (variants.Copy x y) h c = rw (variable_known vars fit x (peers_there vars x y h).0) (peer_operand vars fit x y (variants.Value x) (variants.Copy x) h c)
  assignment_known (variants.Next x y) h c = rw (variable_known vars fit x (peers_there vars x y h).0, peer_known vars fit x y h) refl
  assignment_known (variants.Prev x y) h c = rw (variable_known vars fit x (peers_there vars x y h).0, peer_known vars fit x y h) refl
  assignment_known (variants.Any x) h c = ap (option_map variants.Any) (variable_known vars fit x (ltb-true x (length vars) h))

  action_known : (bs : List Assign) → list_all (is_assign_in_range vars) bs ≡ true → list_all (is_clear_assignment vars) bs ≡ true → resolved_action vars (named_action vars bs) ≡ Some bs
  action_known [] h c = refl
  action_known (b ∷ more) h c =
      let range = and_parts (is_assign_in_range vars b) (list_all (is_assign_in_range vars) more) h in
      let clear = and_parts (is_clear_assignment vars b) (list_all (is_clear_assignment vars) more) c in
      rw (assignment_known b range.0 clear.0, action_known more range.1 clear.1) refl

  -- variables of one name are one
  other_name : (x y : ℕ) (b : Bool) → x < length vars → y < length vars → (y == x) ≡ false → bytes_eq (variable_name vars x) (variable_name vars y) ≡ b → b ≡ false
  other_name x y true h k n e =
      let same : x ≡ y = same_place (names_of vars) x y (names_differ vars fit) (omega (arith, names_length vars)) (omega (arith, names_length vars)) (same_bytes (variable_name vars x) (variable_name vars y) e) in
      absurd (both_ways (y == x) n (eq-eqb y x (sym same)))
  other_name x y false h k n e = refl

  -- a variable that is not assigned has a name that is not set
  not_set : (x : ℕ) (bs : List Assign) → x < length vars → list_all (is_assign_in_range vars) bs ≡ true → list_any (assigns x) bs ≡ false → is_among (map set_name (named_action vars bs)) (variable_name vars x) ≡ false
  not_set x [] h range n = refl
  not_set x (b ∷ more) h range n =
      let parts = and_parts (is_assign_in_range vars b) (list_all (is_assign_in_range vars) more) range in
      let apart = or_parts (assigned b == x) (list_any (assigns x) more) n in
      let here : bytes_eq (variable_name vars x) (set_name (named_assignment vars b)) ≡ false = rw (name_set vars b) (other_name x (assigned b) _ h (assigned_there vars b parts.0) apart.0 refl) in
      or_from (bytes_eq (variable_name vars x) (set_name (named_assignment vars b))) (is_among (map set_name (named_action vars more)) (variable_name vars x)) here (not_set x more h parts.1 apart.1)

  set_once : (bs : List Assign) → list_all (is_assign_in_range vars) bs ≡ true → assigns_twice bs ≡ false → sets_twice (named_action vars bs) ≡ false
  set_once [] range n = refl
  set_once (b ∷ more) range n =
      let parts = and_parts (is_assign_in_range vars b) (list_all (is_assign_in_range vars) more) range in
      let apart = or_parts (list_any (assigns (assigned b)) more) (assigns_twice more) n in
      let here : is_among (map set_name (named_action vars more)) (set_name (named_assignment vars b)) ≡ false = rw (name_set vars b) (not_set (assigned b) more (assigned_there vars b parts.0) parts.1 apart.0) in
      or_from (is_among (map set_name (named_action vars more)) (set_name (named_assignment vars b))) (sets_twice (named_action vars more)) here (set_once more parts.1 apart.1)

pub printed_actions_are_read : PrintedActionsAreRead
printed_actions_are_read vars bs fit range h =
    let in_range = and_parts (list_all (is_assign_in_range vars) bs) (not (assigns_twice bs)) range in
    let parts = and_parts (list_all has_names (named_action vars bs)) (list_all (is_clear_assignment vars) bs) h in
    record {
      action = named_action vars bs;
      spelled = record { spelled = refl; named = parts.0 };
      once = set_once vars fit bs in_range.0 (not-true (assigns_twice bs) in_range.1);
      known = action_known vars fit bs in_range.0 parts.1;
    }

-- no tokens are two lists of assignments
pub assigns_are_unique : AssignsAreUnique
assigns_are_unique vars tokens bs cs h k =
    same_Some _ _ (sym h.known ∙ ap (resolved_action vars) (actions_are_unique tokens h.action k.action h.spelled k.spelled) ∙ k.known)

-- an action is printed with the tokens that were read
pub actions_keep_their_tokens : ActionsKeepTheirTokens
actions_keep_their_tokens vars tokens bs h = ap action_tokens (action_back vars h.action bs h.known).named ∙ sym h.spelled.spelled
