-- The lines of a sound map on what viewpoints send and tell are faultless after the declarations.
use Rattle.std.proofs.Common.{◌≡◌, ℕ, zero, suc, ◌<◌, ◌==◌, Bool, true, false, ◌&&◌, not, nat_lt, List, [], ◌∷◌, map, length, refl, sym, ◌∙◌, ap, subst, arith}
use Rattle.std.specs.List.{list_any, list_all}
use Rattle.std.specs.Str.{bytes_eq}
use Rattle.std.proofs.lemmas.Bool.{and_parts, and_from, or_parts, or_from, not-true, ltb-true, eq-eqb, ne_eqb}
use Rattle.std.proofs.lemmas.List.{length-map}
use Rattle.std.proofs.lemmas.List.Sums.{AllPass-from_list_all}
use Rattle.xc_base.specs.Formats.{IsFaultless}
use Rattle.xc_base.specs.Names.{is_among, has_twice, name_at, place_of}
use Rattle.xc_base.specs.Words.{is_name}
use Rattle.xc_base.proofs.Naming.{same_bytes, bytes_refl, among_at, place_of-name_at, same_place}
use Rattle.xc_forms.specs.Variables.{names_of, values_at, is_domain}
use Rattle.xc_forms.specs.VariableNames.{is_value_name}
use Rattle.xc_forms.specs.declared.domain.Domain.{Domain}
use Rattle.xc_forms.specs.VariableLines.{is_named_var}
use Rattle.xc_sigmap_lines.specs.declared.parts.Use as viewpoints
use Rattle.xc_sigmap_lines.specs.declared.parts.Carry.{Carry}
use Rattle.xc_sigmap_lines.specs.declared.parts.SendLine.{SendLine}
use Rattle.xc_sigmap_lines.specs.declared.parts.Tell as tellings
use Rattle.xc_sigmap_lines.specs.declared.parts.Stutter as gaps
use Rattle.xc_sigmap_lines.specs.declared.statement.Statement.{Statement}
use Rattle.xc_sigmap_lines.specs.MapFiles.{MapValue, spelling, is_named_pair, use_names, carried_names, values_named, says_again, props_of, has_use, has_source, carry, sends_of, tells_of, stutters_of, map_format}
use Rattle.xc_sigmap.specs.Sound.{has_two, is_named_use, is_carry_in, is_send_in, is_tell_in, is_stutter_in, same_value, same_send, same_tell, same_stutter}
use Rattle.xc_sigmap_text.specs.Printing.{use_at, paired, sending, telling, stuttering}
use Rattle.xc_sigmap_text.proofs.Restating.{IsBehind}

-- the names of a list at two places are the same where the places are
names_same : (names : List (List ℕ)) (i j : ℕ) → has_twice names ≡ false → i < length names → j < length names → bytes_eq (name_at names i) (name_at names j) ≡ (i == j)
names_same names i j h within other = by_places (bytes_eq (name_at names i) (name_at names j)) refl
  where
    by_places : (b : Bool) → bytes_eq (name_at names i) (name_at names j) ≡ b → b ≡ (i == j)
    by_places true e = sym (eq-eqb i j (same_place names i j h within other (same_bytes (name_at names i) (name_at names j) e)))
    by_places false e =
        sym (ne_eqb i j (λ (same : i ≡ j).
        let equal : bytes_eq (name_at names i) (name_at names j) ≡ true = subst (λ (k : ℕ). bytes_eq (name_at names i) (name_at names k) ≡ true) same (bytes_refl (name_at names i)) in
        let never : false ≡ true = sym e ∙ equal in
        cc))

-- a name at a place is one of those that all pass a test
name_passes : (p : List ℕ → Bool) (names : List (List ℕ)) (i : ℕ) → list_all p names ≡ true → i < length names → p (name_at names i) ≡ true
name_passes p names i h within = AllPass-from_list_all p names h i [] within

-- two numbers differ either way round
swapped : (i j : ℕ) → (j == i) ≡ false → (i == j) ≡ false
swapped i j e = ne_eqb i j (λ (same : i ≡ j). let equal : (j == i) ≡ true = eq-eqb j i (sym same) in let never : false ≡ true = sym e ∙ equal in cc)

-- what pairs carry, with their names
module _ (values : List (List ℕ)) where
  pairs_named : (cs : List Carry) → list_all is_name values ≡ true → list_all (is_carry_in values) cs ≡ true → list_all is_named_pair (map (paired values) cs) ≡ true
  pairs_named [] n h = refl
  pairs_named (c ∷ cs) n h =
      let parts = and_parts (is_carry_in values c) (list_all (is_carry_in values) cs) h in
      let here = and_parts (nat_lt c.value (length values)) (is_name c.word) parts.0 in
      and_from _ _ (and_from _ _ (name_passes is_name values c.value n (ltb-true c.value (length values) here.0)) here.1) (pairs_named cs n parts.1)

  pairs_known : (cs : List Carry) → list_all (is_carry_in values) cs ≡ true → list_all (is_among values) (carried_names (map (paired values) cs)) ≡ true
  pairs_known [] h = refl
  pairs_known (c ∷ cs) h =
      let parts = and_parts (is_carry_in values c) (list_all (is_carry_in values) cs) h in
      let here = and_parts (nat_lt c.value (length values)) (is_name c.word) parts.0 in
      and_from _ _ (among_at values c.value (ltb-true c.value (length values) here.0)) (pairs_known cs parts.1)

  pair_new : (c : Carry) (cs : List Carry) → has_twice values ≡ false → c.value < length values → list_all (is_carry_in values) cs ≡ true → list_any (λ (d : Carry). same_value d c) cs ≡ false
      → is_among (carried_names (map (paired values) cs)) (name_at values c.value) ≡ false
  pair_new c [] t within h k = refl
  pair_new c (d ∷ cs) t within h k =
      let parts = and_parts (is_carry_in values d) (list_all (is_carry_in values) cs) h in
      let here = ltb-true d.value (length values) (and_parts (nat_lt d.value (length values)) (is_name d.word) parts.0).0 in
      let rest = or_parts (same_value d c) (list_any (λ (d : Carry). same_value d c) cs) k in
      or_from _ _ (names_same values c.value d.value t within here ∙ swapped c.value d.value rest.0) (pair_new c cs t within parts.1 rest.1)

  pairs_once : (cs : List Carry) → has_twice values ≡ false → list_all (is_carry_in values) cs ≡ true → has_two same_value cs ≡ false → has_twice (carried_names (map (paired values) cs)) ≡ false
  pairs_once [] t h k = refl
  pairs_once (c ∷ cs) t h k =
      let parts = and_parts (is_carry_in values c) (list_all (is_carry_in values) cs) h in
      let here = ltb-true c.value (length values) (and_parts (nat_lt c.value (length values)) (is_name c.word) parts.0).0 in
      let rest = or_parts (list_any (λ (d : Carry). same_value d c) cs) (has_two same_value cs) k in
      or_from _ _ (pair_new c cs t here parts.1 rest.0) (pairs_once cs t parts.1 rest.1)

  pub pairs_back : (cs : List Carry) → has_twice values ≡ false → list_all (is_carry_in values) cs ≡ true → map (carry values) (map (paired values) cs) ≡ cs
  pairs_back [] t h = refl
  pairs_back (c ∷ cs) t h =
      let parts = and_parts (is_carry_in values c) (list_all (is_carry_in values) cs) h in
      let here = ltb-true c.value (length values) (and_parts (nat_lt c.value (length values)) (is_name c.word) parts.0).0 in
      rw (place_of-name_at values c.value t here, pairs_back cs t parts.1)

abbrev pub line_of_parts : ℕ → List ℕ → ℕ → List Carry → SendLine
line_of_parts viewpoint variable source pairs = record { viewpoint = viewpoint; variable = variable; from = source; pairs = pairs }

-- parts that are those of a line
send_parts : (viewpoint source : ℕ) (pairs : List Carry) (l : SendLine) → viewpoint ≡ l.viewpoint → source ≡ l.from → pairs ≡ l.pairs
    → line_of_parts viewpoint l.variable source pairs ≡ l
send_parts viewpoint source pairs l e f g = rw (e, f, g)

-- what holds of what a map declares
pub record IsDeclared (v : MapValue) : Type 0 where
  pub used : has_twice (use_names v.uses) ≡ false
  pub named_uses : list_all is_named_use v.uses ≡ true
  pub varied : has_twice (names_of v.vars) ≡ false
  pub named_vars : list_all is_named_var v.vars ≡ true
  pub domains : list_all is_domain v.vars ≡ true
  pub declared : has_twice v.props ≡ false
  pub named_props : list_all is_name v.props ≡ true

-- names of viewpoints and of variables are names
uses_are_names : (us : List viewpoints.Use) → list_all is_named_use us ≡ true → list_all is_name (use_names us) ≡ true
uses_are_names [] k = refl
uses_are_names (u ∷ us) k =
    let parts = and_parts (is_named_use u) (list_all is_named_use us) k in
    and_from (is_name u.name) (list_all is_name (use_names us)) (and_parts _ _ parts.0).0 (uses_are_names us parts.1)

vars_are_names : (vs : List Domain) → list_all is_named_var vs ≡ true → list_all is_name (names_of vs) ≡ true
vars_are_names [] k = refl
vars_are_names (d ∷ vs) k =
    let parts = and_parts (is_named_var d) (list_all is_named_var vs) k in
    and_from (is_name d.name) (list_all is_name (names_of vs)) (and_parts _ _ (and_parts _ _ parts.0).0).0 (vars_are_names vs parts.1)

-- so are those of values
words_are_names : (ws : List (List ℕ)) → list_all is_value_name ws ≡ true → list_all is_name ws ≡ true
words_are_names [] k = refl
words_are_names (w ∷ ws) k =
    let parts = and_parts (is_value_name w) (list_all is_value_name ws) k in
    and_from (is_name w) (list_all is_name ws) (and_parts _ _ parts.0).0 (words_are_names ws parts.1)

values_are_names : (vs : List Domain) (i : ℕ) → list_all is_named_var vs ≡ true → i < length vs → list_all is_name (values_at vs i) ≡ true
values_are_names [] i k within = absurd (omega arith)
values_are_names (d ∷ vs) zero k within = words_are_names d.values (and_parts _ _ (and_parts _ _ k).0).1
values_are_names (d ∷ vs) (suc i) k within = values_are_names vs i (and_parts _ _ k).1 (omega arith)

-- which are different
values_differ : (vs : List Domain) (i : ℕ) → list_all is_domain vs ≡ true → i < length vs → has_twice (values_at vs i) ≡ false
values_differ [] i k within = absurd (omega arith)
values_differ (d ∷ vs) zero k within = not-true (has_twice d.values) (and_parts _ _ (and_parts _ _ k).0).1
values_differ (d ∷ vs) (suc i) k within = values_differ vs i (and_parts _ _ k).1 (omega arith)

module _ (v : MapValue) (h : IsDeclared v) where
  use_within : (i : ℕ) → nat_lt i (length v.uses) ≡ true → i < length (use_names v.uses)
  use_within i k = let below = ltb-true i (length v.uses) k in omega (arith, length-map v.uses (λ (u : viewpoints.Use). u.name))

  var_within : (i : ℕ) → nat_lt i (length v.vars) ≡ true → i < length (names_of v.vars)
  var_within i k = let below = ltb-true i (length v.vars) k in omega (arith, length-map v.vars (λ (d : Domain). d.name))

  use_named : (i : ℕ) → nat_lt i (length v.uses) ≡ true → is_name (use_at v i) ≡ true
  use_named i k = name_passes is_name (use_names v.uses) i (uses_are_names v.uses h.named_uses) (use_within i k)

  use_known : (before : List Statement) (i : ℕ) → IsBehind v.uses v.vars v.props before → nat_lt i (length v.uses) ≡ true → has_use before (use_at v i) ≡ true
  use_known before i b k = ap (λ (us : List viewpoints.Use). is_among (use_names us) (use_at v i)) b.used ∙ among_at (use_names v.uses) i (use_within i k)

  use_same : (i j : ℕ) → nat_lt i (length v.uses) ≡ true → nat_lt j (length v.uses) ≡ true → bytes_eq (use_at v i) (use_at v j) ≡ (i == j)
  use_same i j k l = names_same (use_names v.uses) i j h.used (use_within i k) (use_within j l)

  use_back : (i : ℕ) → nat_lt i (length v.uses) ≡ true → place_of (use_names v.uses) (use_at v i) ≡ i
  use_back i k = place_of-name_at (use_names v.uses) i h.used (use_within i k)

  -- what a line of what is sent is fit for
  module _ (l : SendLine) (fit : is_send_in v l ≡ true) where
    fourth : (nat_lt l.viewpoint (length v.uses) && is_name l.variable && nat_lt l.from (length v.vars) && list_all (is_carry_in (values_at v.vars l.from)) l.pairs) ≡ true
    fourth = (and_parts _ _ fit).0

    send_once : has_two same_value l.pairs ≡ false
    send_once = not-true (has_two same_value l.pairs) (and_parts _ _ fit).1

    send_carried : list_all (is_carry_in (values_at v.vars l.from)) l.pairs ≡ true
    send_carried = (and_parts _ _ fourth).1

    send_from : nat_lt l.from (length v.vars) ≡ true
    send_from = (and_parts _ _ (and_parts _ _ fourth).0).1

    send_variable : is_name l.variable ≡ true
    send_variable = (and_parts _ _ (and_parts _ _ (and_parts _ _ fourth).0).0).1

    send_use : nat_lt l.viewpoint (length v.uses) ≡ true
    send_use = (and_parts _ _ (and_parts _ _ (and_parts _ _ fourth).0).0).0

    source_back : place_of (names_of v.vars) (name_at (names_of v.vars) l.from) ≡ l.from
    source_back = place_of-name_at (names_of v.vars) l.from h.varied (var_within l.from send_from)

    source_values : values_named v.vars (name_at (names_of v.vars) l.from) ≡ values_at v.vars l.from
    source_values = ap (values_at v.vars) source_back

    source_known : (is_among (names_of v.vars) (name_at (names_of v.vars) l.from) && list_all (is_among (values_named v.vars (name_at (names_of v.vars) l.from))) (carried_names (map (paired (values_at v.vars l.from)) l.pairs))) ≡ true
    source_known =
        and_from _ _ (among_at (names_of v.vars) l.from (var_within l.from send_from))
        (subst (λ (values : List (List ℕ)). list_all (is_among values) (carried_names (map (paired (values_at v.vars l.from)) l.pairs)) ≡ true) (sym source_values)
        (pairs_known (values_at v.vars l.from) l.pairs send_carried))

    source_there : (before : List Statement) → IsBehind v.uses v.vars v.props before → has_source before (name_at (names_of v.vars) l.from) (map (paired (values_at v.vars l.from)) l.pairs) ≡ true
    source_there before b =
        ap (λ (vs : List Domain). is_among (names_of vs) (name_at (names_of v.vars) l.from) && list_all (is_among (values_named vs (name_at (names_of v.vars) l.from))) (carried_names (map (paired (values_at v.vars l.from)) l.pairs))) b.varied
        ∙ source_known

    pub send_fine : (before : List Statement) → IsBehind v.uses v.vars v.props before → list_any (says_again (sending v l)) before ≡ false → IsFaultless map_format before (spelling (sending v l)) (sending v l)
    send_fine before b new =
        let below : l.from < length v.vars = ltb-true l.from (length v.vars) send_from in
        let source_named = name_passes is_name (names_of v.vars) l.from (vars_are_names v.vars h.named_vars) (var_within l.from send_from) in
        let carried = pairs_named (values_at v.vars l.from) l.pairs (values_are_names v.vars l.from h.named_vars below) send_carried in
        let once = pairs_once (values_at v.vars l.from) l.pairs (values_differ v.vars l.from h.domains below) send_carried send_once in
        record {
          due = record { spelled = refl; named = and_from _ _ (and_from _ _ (and_from _ _ (use_named l.viewpoint send_use) send_variable) source_named) carried; placed = b.due (sending v l) refl };
          first = or_from _ _ new once;
          known = ap not (and_from _ _ (use_known before l.viewpoint b send_use) (source_there before b));
          few = refl;
        }

    pub send_back : line_of_parts (place_of (use_names v.uses) (use_at v l.viewpoint)) l.variable (place_of (names_of v.vars) (name_at (names_of v.vars) l.from)) (map (carry (values_named v.vars (name_at (names_of v.vars) l.from))) (map (paired (values_at v.vars l.from)) l.pairs)) ≡ l
    send_back =
        let carried : map (carry (values_named v.vars (name_at (names_of v.vars) l.from))) (map (paired (values_at v.vars l.from)) l.pairs) ≡ l.pairs =
        ap (λ (values : List (List ℕ)). map (carry values) (map (paired (values_at v.vars l.from)) l.pairs)) source_values
        ∙ pairs_back (values_at v.vars l.from) l.pairs (values_differ v.vars l.from h.domains (ltb-true l.from (length v.vars) send_from)) send_carried in
        send_parts (place_of (use_names v.uses) (use_at v l.viewpoint)) (place_of (names_of v.vars) (name_at (names_of v.vars) l.from)) (map (carry (values_named v.vars (name_at (names_of v.vars) l.from))) (map (paired (values_at v.vars l.from)) l.pairs)) l (use_back l.viewpoint send_use) source_back carried

  pub send_again : (l m : SendLine) → is_send_in v l ≡ true → is_send_in v m ≡ true → says_again (sending v l) (sending v m) ≡ same_send l m
  send_again l m fit other = ap (λ (b : Bool). b && bytes_eq l.variable m.variable) (use_same l.viewpoint m.viewpoint (send_use l fit) (send_use m other))

  pub sends_back : (ls : List SendLine) → list_all (is_send_in v) ls ≡ true → sends_of v.uses v.vars (map (sending v) ls) ≡ ls
  sends_back [] k = refl
  sends_back (l ∷ ls) k =
      let parts = and_parts (is_send_in v l) (list_all (is_send_in v) ls) k in
      ap (λ (m : SendLine). m ∷ sends_of v.uses v.vars (map (sending v) ls)) (send_back l parts.0) ∙ ap (λ (ms : List SendLine). l ∷ ms) (sends_back ls parts.1)

  -- likewise of what is told
  module _ (l : tellings.Tell) (fit : is_tell_in v l ≡ true) where
    tell_use : nat_lt l.viewpoint (length v.uses) ≡ true
    tell_use = (and_parts _ _ (and_parts _ _ fit).0).0

    tell_prop : nat_lt l.prop (length v.props) ≡ true
    tell_prop = (and_parts _ _ (and_parts _ _ fit).0).1

    pub tell_fine : (before : List Statement) → IsBehind v.uses v.vars v.props before → list_any (says_again (telling v l)) before ≡ false → IsFaultless map_format before (spelling (telling v l)) (telling v l)
    tell_fine before b new =
        let within : l.prop < length v.props = ltb-true l.prop (length v.props) tell_prop in
        let there : is_among (props_of before) (name_at v.props l.prop) ≡ true = ap (λ (ps : List (List ℕ)). is_among ps (name_at v.props l.prop)) b.declared ∙ among_at v.props l.prop within in
        record {
          due = record { spelled = refl; named = and_from _ _ (and_from _ _ (use_named l.viewpoint tell_use) (name_passes is_name v.props l.prop h.named_props within)) (and_parts _ _ fit).1; placed = b.due (telling v l) refl };
          first = new;
          known = ap not (and_from _ _ (use_known before l.viewpoint b tell_use) there);
          few = refl;
        }

    pub prop_back : place_of v.props (name_at v.props l.prop) ≡ l.prop
    prop_back = place_of-name_at v.props l.prop h.declared (ltb-true l.prop (length v.props) tell_prop)

  pub tell_again : (l m : tellings.Tell) → is_tell_in v l ≡ true → is_tell_in v m ≡ true → says_again (telling v l) (telling v m) ≡ same_tell l m
  tell_again l m fit other =
      ap (λ (b : Bool). b && bytes_eq (name_at v.props l.prop) (name_at v.props m.prop)) (use_same l.viewpoint m.viewpoint (tell_use l fit) (tell_use m other))
      ∙ ap (λ (b : Bool). (l.viewpoint == m.viewpoint) && b) (names_same v.props l.prop m.prop h.declared (ltb-true l.prop (length v.props) (tell_prop l fit)) (ltb-true m.prop (length v.props) (tell_prop m other)))

  pub tells_back : (ls : List tellings.Tell) → list_all (is_tell_in v) ls ≡ true → tells_of v.uses v.props (map (telling v) ls) ≡ ls
  tells_back [] k = refl
  tells_back (l ∷ ls) k =
      let parts = and_parts (is_tell_in v l) (list_all (is_tell_in v) ls) k in
      rw (use_back l.viewpoint (tell_use l parts.0), prop_back l parts.0, tells_back ls parts.1)

  -- and of stutter values
  stutter_use : (l : gaps.Stutter) → is_stutter_in v l ≡ true → nat_lt l.viewpoint (length v.uses) ≡ true
  stutter_use l fit = (and_parts _ _ fit).0

  pub stutter_fine : (before : List Statement) (l : gaps.Stutter) → IsBehind v.uses v.vars v.props before → is_stutter_in v l ≡ true → list_any (says_again (stuttering v l)) before ≡ false → IsFaultless map_format before (spelling (stuttering v l)) (stuttering v l)
  stutter_fine before l b fit new =
      record {
        due = record { spelled = refl; named = and_from _ _ (use_named l.viewpoint (stutter_use l fit)) (and_parts _ _ fit).1; placed = b.due (stuttering v l) refl };
        first = new;
        known = ap not (use_known before l.viewpoint b (stutter_use l fit));
        few = refl;
      }

  pub stutter_again : (l m : gaps.Stutter) → is_stutter_in v l ≡ true → is_stutter_in v m ≡ true → says_again (stuttering v l) (stuttering v m) ≡ same_stutter l m
  stutter_again l m fit other = use_same l.viewpoint m.viewpoint (stutter_use l fit) (stutter_use m other)

  pub stutters_back : (ls : List gaps.Stutter) → list_all (is_stutter_in v) ls ≡ true → stutters_of v.uses (map (stuttering v) ls) ≡ ls
  stutters_back [] k = refl
  stutters_back (l ∷ ls) k =
      let parts = and_parts (is_stutter_in v l) (list_all (is_stutter_in v) ls) k in
      rw (use_back l.viewpoint (stutter_use l parts.0), stutters_back ls parts.1)
