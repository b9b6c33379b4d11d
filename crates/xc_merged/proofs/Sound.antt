-- What holds of each view and of each map, part by part.
use Rattle.std.proofs.Common.{◌≡◌, ℕ, ◌*◌, ◌<◌, ◌≤◌, true, List, [], ◌∷◌, length, map, get_or, take, drop, refl, sym, ◌∙◌, ap, subst, arith}
use Rattle.std.specs.List.{list_all}
use Rattle.std.proofs.lemmas.Bool.{and_parts, and_from, leb-true}
use Rattle.std.proofs.lemmas.List.{get_or-map}
use Rattle.xc_merged.proofs.Joining.{passes}
use Rattle.xc_merged.proofs.Fronts.{positive_factors, total_split}
use Rattle.xc_theory.specs.Codes.{total}
use Rattle.xc_forms.specs.Variables.{are_fit, is_domain, sizes_of}
use Rattle.xc_forms.specs.declared.domain.Domain.{Domain}
use Rattle.xc_sigmap_lines.specs.MapFiles.{MapValue}
use Rattle.xc_sigmap.specs.Sound as maps
use Rattle.xc_expr.specs.Tests.{is_in_range}
use Rattle.xc_view.specs.ViewFiles.{ViewValue}
use Rattle.xc_view.specs.Parts.{prop_value, command_value, is_prop_in, is_command_in, is_sound}
use Rattle.xc_view.specs.declared.lines.PropLine.{PropLine}
use Rattle.xc_view.specs.declared.lines.Command.{Command}
use Rattle.xc_merged.specs.Joins.{has_guard_in, has_action_in, has_test_in}

-- the parts that the frame of a view needs
pub record Sound (v : ViewValue) : Type 0 where
  pub fit : are_fit v.vars ≡ true
  pub begins : is_in_range v.vars v.init ≡ true
  pub lines : list_all (is_prop_in v) v.props ≡ true
  pub few : length v.props ≤ 256
  pub commands : list_all (is_command_in v) v.commands ≡ true

-- what holds of each view has these parts
pub sound_parts : (v : ViewValue) → is_sound v ≡ true → Sound v
sound_parts v h =
    let nine = (and_parts _ _ h).0 in
    let eight = (and_parts _ _ nine).0 in
    let seven = and_parts _ _ eight in
    let six = and_parts _ _ seven.0 in
    let five = and_parts _ _ six.0 in
    let four = and_parts _ _ five.0 in
    let three = and_parts _ _ four.0 in
    record { fit = (and_parts _ _ three.0).1; begins = three.1; lines = four.1; few = leb-true (length v.props) 256 five.1; commands = six.1 }

-- the guards of commands speak of the variables
pub guards_in : (v : ViewValue) (commands : List Command) → list_all (is_command_in v) (map command_value commands) ≡ true → list_all (has_guard_in v.vars) commands ≡ true
guards_in v [] h = refl
guards_in v (c ∷ commands) h =
    let both = and_parts (is_command_in v (command_value c)) (list_all (is_command_in v) (map command_value commands)) h in
    and_from (has_guard_in v.vars c) (list_all (has_guard_in v.vars) commands) (and_parts _ _ (and_parts _ _ both.0).0).1 (guards_in v commands both.1)

-- so do their actions
pub actions_in : (v : ViewValue) (commands : List Command) → list_all (is_command_in v) (map command_value commands) ≡ true → list_all (has_action_in v.vars) commands ≡ true
actions_in v [] h = refl
actions_in v (c ∷ commands) h =
    let both = and_parts (is_command_in v (command_value c)) (list_all (is_command_in v) (map command_value commands)) h in
    and_from (has_action_in v.vars c) (list_all (has_action_in v.vars) commands) (and_parts _ _ both.0).1 (actions_in v commands both.1)

-- and so do the guards of lines
pub tests_in : (v : ViewValue) (lines : List PropLine) → list_all (is_prop_in v) (map prop_value lines) ≡ true → list_all (has_test_in v.vars) lines ≡ true
tests_in v [] h = refl
tests_in v (l ∷ lines) h =
    let both = and_parts (is_prop_in v (prop_value l)) (list_all (is_prop_in v) (map prop_value lines)) h in
    and_from (has_test_in v.vars l) (list_all (has_test_in v.vars) lines) (and_parts _ _ both.0).1 (tests_in v lines both.1)

-- each variable is a domain, and there are not too many states
pub domains_of : (vars : List Domain) → are_fit vars ≡ true → list_all is_domain vars ≡ true
domains_of vars fit = (and_parts _ _ (and_parts _ _ fit).0).1

pub states_few : (vars : List Domain) → are_fit vars ≡ true → total (sizes_of vars) ≤ 1048576
states_few vars fit = leb-true (total (sizes_of vars)) 1048576 (and_parts _ _ fit).1

-- a product of positive numbers
positive_product : (a b : ℕ) → 1 ≤ a → 1 ≤ b → 1 ≤ a * b
positive_product a b h k = grind arith

pub total_some : (vars : List Domain) → list_all is_domain vars ≡ true → 1 ≤ total (sizes_of vars)
total_some [] h = omega arith
total_some (d ∷ vars) h =
    let both = and_parts (is_domain d) (list_all is_domain vars) h in
    let two : 2 ≤ length d.values = leb-true 2 (length d.values) (and_parts _ _ (and_parts _ _ both.0).0).0 in
    positive_product (length d.values) (total (sizes_of vars)) (omega arith) (total_some vars both.1)

-- the parts that the merged machine needs of a map
pub record SoundMap (m : MapValue) : Type 0 where
  pub some : 1 ≤ length m.uses
  pub few : length m.uses ≤ 8
  pub fit : are_fit m.vars ≡ true
  pub props : length m.props ≤ 256
  pub sends : list_all (maps.is_send_in m) m.sends ≡ true
  pub tells : list_all (maps.is_tell_in m) m.tells ≡ true

pub map_parts : (m : MapValue) → maps.is_sound m ≡ true → SoundMap m
map_parts m h =
    let both = and_parts _ _ h in
    let nine = (and_parts _ _ both.0).0 in
    let eight = and_parts _ _ (and_parts _ _ nine).0 in
    let six = and_parts _ _ (and_parts _ _ eight.0).0 in
    let four = and_parts _ _ (and_parts _ _ six.0).0 in
    let three = and_parts _ _ four.0 in
    let two = and_parts _ _ three.0 in
    let four_told = (and_parts _ _ (and_parts _ _ both.1).0).0 in
    let told = and_parts _ _ (and_parts _ _ four_told).0 in
    record {
      some = leb-true 1 (length m.uses) two.1;
      few = leb-true (length m.uses) 8 three.1;
      fit = six.1;
      props = leb-true (length m.props) 256 eight.1;
      sends = (and_parts _ _ told.0).0;
      tells = told.1;
    }

pub map_domains : (m : MapValue) → maps.is_sound m ≡ true → list_all is_domain m.vars ≡ true
map_domains m h = domains_of m.vars (map_parts m h).fit

pub map_states : (m : MapValue) → maps.is_sound m ≡ true → total (sizes_of m.vars) ≤ 1048576
map_states m h = states_few m.vars (map_parts m h).fit

pub some_states : (m : MapValue) → maps.is_sound m ≡ true → 1 ≤ total (sizes_of m.vars)
some_states m h = total_some m.vars (map_domains m h)

-- how many values a variable of a map has
pub size_at : (vars : List Domain) (x : ℕ) (d : Domain) → x < length vars → d ≡ get_or vars x d → length d.values ≡ get_or (sizes_of vars) x 0
size_at vars x d low is = ap (λ (e : Domain). length e.values) is ∙ sym (get_or-map (λ (e : Domain). length e.values) vars x d 0 low)

pub size_some : (m : MapValue) (x : ℕ) (d : Domain) → maps.is_sound m ≡ true → x < length m.vars → d ≡ get_or m.vars x d → 2 ≤ length d.values
size_some m x d h low is =
    let there : is_domain d ≡ true = passes is_domain m.vars x d (map_domains m h) low is in
    leb-true 2 (length d.values) (and_parts _ _ (and_parts _ _ there).0).0

pub size_few : (m : MapValue) (x : ℕ) (d : Domain) → maps.is_sound m ≡ true → x < length m.vars → d ≡ get_or m.vars x d → length d.values ≤ 16
size_few m x d h low is =
    let there : is_domain d ≡ true = passes is_domain m.vars x d (map_domains m h) low is in
    leb-true (length d.values) 16 (and_parts _ _ (and_parts _ _ there).0).1

-- the states of the variables from one on are some
pub rest_some : (m : MapValue) (depth : ℕ) → maps.is_sound m ≡ true → 0 < total (drop depth (sizes_of m.vars))
rest_some m depth h =
    let some : 0 < total (sizes_of m.vars) = omega (arith, some_states m h) in
    (positive_factors (total (take depth (sizes_of m.vars))) (total (drop depth (sizes_of m.vars))) (subst (λ (n : ℕ). 0 < n) (total_split (sizes_of m.vars) depth) some)).1

-- the same of fit variables
pub value_few : (vars : List Domain) (x : ℕ) (d : Domain) → are_fit vars ≡ true → x < length vars → d ≡ get_or vars x d → length d.values ≤ 16
value_few vars x d fit low is =
    let there : is_domain d ≡ true = passes is_domain vars x d (domains_of vars fit) low is in
    leb-true (length d.values) 16 (and_parts _ _ (and_parts _ _ there).0).1

pub rest_positive : (vars : List Domain) (depth : ℕ) → are_fit vars ≡ true → 0 < total (drop depth (sizes_of vars))
rest_positive vars depth fit =
    let some : 0 < total (sizes_of vars) = omega (arith, total_some vars (domains_of vars fit)) in
    (positive_factors (total (take depth (sizes_of vars))) (total (drop depth (sizes_of vars))) (subst (λ (n : ℕ). 0 < n) (total_split (sizes_of vars) depth) some)).1
