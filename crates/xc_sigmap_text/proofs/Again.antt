-- The canonical text of a map is read again as the map.
use Rattle.std.proofs.Common.{◌≡◌, ℕ, ◌≤◌, true, false, List, [], ◌∷◌, ◌++◌, map, length, None, refl, sym, ◌∙◌, ap, subst, arith}
use Rattle.std.specs.List.{list_any, list_all}
use Rattle.std.proofs.lemmas.Bool.{and_parts, and_from, or_from, not-true, leb-true, lt-ltb}
use Rattle.std.proofs.lemmas.List.{append-nil}
use Rattle.std.proofs.lemmas.List.Folds.{list_any-append}
use Rattle.xc_theory.specs.Codes.{total}
use Rattle.xc_base.specs.Canonical.{numbered}
use Rattle.xc_base.specs.Formats.{IsAccepted, IsFaultless}
use Rattle.xc_base.specs.Names.{has_twice}
use Rattle.xc_base.specs.Words.{is_name}
use Rattle.xc_forms.specs.Variables.{names_of, sizes_of, is_domain, state_limit}
use Rattle.xc_forms.specs.declared.domain.Domain.{Domain}
use Rattle.xc_forms.specs.VariableLines.{is_named_var}
use Rattle.xc_forms.proofs.Restating.{are_statements, faultless_join}
use Rattle.xc_sigmap_lines.specs.declared.parts.Use as viewpoints
use Rattle.xc_sigmap_lines.specs.declared.parts.Tell as tellings
use Rattle.xc_sigmap_lines.specs.declared.parts.Stutter as gaps
use Rattle.xc_sigmap_lines.specs.declared.statement.Statement.{Statement}
use Rattle.xc_sigmap_lines.specs.declared.statement.Statement.TheVariants.{Map, Use, Var, Prop, Send, Tell, Stutter}
use Rattle.xc_sigmap_lines.specs.MapFiles.{MapValue, spelling, is_prop_name, is_late, may_follow, uses_of, vars_of, props_of, use_names, sends_of, tells_of, stutters_of, says_again, use_limit, prop_limit, missing_part, first_name, map_of, map_format}
use Rattle.xc_sigmap.specs.Sound.{has_two, is_named_use, is_send_in, is_tell_in, is_stutter_in, same_send, same_tell, same_stutter, are_declared, are_told, is_sound}
use Rattle.xc_sigmap_text.specs.Printing.{sending, telling, stuttering, statements_in, map_lines}
use Rattle.xc_sigmap.proofs.Fair.{uses_append, vars_append, props_append}
use Rattle.xc_sigmap_text.proofs.Restating.{AreFaultless, IsBehind, early_again, late_faultless, behind_all, new_by, other_kind}
use Rattle.xc_sigmap_text.proofs.Declaring.{uses_fine, vars_fine, props_fine}
use Rattle.xc_sigmap_text.proofs.Telling.{IsDeclared, send_fine, send_again, sends_back, tell_fine, tell_again, tells_back, stutter_fine, stutter_again, stutters_back}
use Rattle.xc_sigmap_text.proofs.ByKind.{due_kind, due_maybe, none_passes, uses_use, uses_var, uses_prop, vars_use, vars_var, vars_prop, props_use, props_var, props_prop, all_uses, all_vars, all_props, all_sends, all_tells, all_stutters}

-- names of propositions are names
props_are_names : (ps : List (List ℕ)) → list_all is_prop_name ps ≡ true → list_all is_name ps ≡ true
props_are_names [] h = refl
props_are_names (p ∷ ps) h =
    let parts = and_parts (is_prop_name p) (list_all is_prop_name ps) h in
    and_from (is_name p) (list_all is_name ps) (and_parts _ _ parts.0).0 (props_are_names ps parts.1)

-- what a late statement may follow
var_then_late : (d : Domain) (s : Statement) → is_late s ≡ true → may_follow (Var d) s ≡ true
var_then_late d (Map name) h = cc
var_then_late d (Use u) h = cc
var_then_late d (Var e) h = cc
var_then_late d (Prop name) h = cc
var_then_late d (Send viewpoint variable source pairs) h = refl
var_then_late d (Tell viewpoint prop told) h = refl
var_then_late d (Stutter viewpoint value) h = refl

prop_then_late : (p : List ℕ) (s : Statement) → is_late s ≡ true → may_follow (Prop p) s ≡ true
prop_then_late p (Map name) h = cc
prop_then_late p (Use u) h = cc
prop_then_late p (Var e) h = cc
prop_then_late p (Prop name) h = cc
prop_then_late p (Send viewpoint variable source pairs) h = refl
prop_then_late p (Tell viewpoint prop told) h = refl
prop_then_late p (Stutter viewpoint value) h = refl

module _ (v : MapValue) (sound : is_sound v ≡ true) where
  declared10 : (are_declared v ≡ true) × (are_told v ≡ true)
  declared10 = and_parts (are_declared v) (are_told v) sound

  pub told : (list_all (is_send_in v) v.sends ≡ true) × (has_two same_send v.sends ≡ false) × (list_all (is_tell_in v) v.tells ≡ true) × (has_two same_tell v.tells ≡ false) × (list_all (is_stutter_in v) v.stutters ≡ true) × (has_two same_stutter v.stutters ≡ false)
  told =
      let sixth = and_parts _ _ declared10.1 in
      let fifth = and_parts _ _ sixth.0 in
      let fourth = and_parts _ _ fifth.0 in
      let third = and_parts _ _ fourth.0 in
      let second = and_parts _ _ third.0 in
      (second.0, not-true _ second.1, third.1, not-true _ fourth.1, fifth.1, not-true _ sixth.1)

  pub record AreSound : Type 0 where
    pub name : is_name v.name ≡ true
    pub some_use : 1 ≤ length v.uses
    pub few_uses : length v.uses ≤ use_limit
    pub used : has_twice (use_names v.uses) ≡ false
    pub named_uses : list_all is_named_use v.uses ≡ true
    pub some_var : 1 ≤ length v.vars
    pub varied : has_twice (names_of v.vars) ≡ false
    pub domains : list_all is_domain v.vars ≡ true
    pub states : total (sizes_of v.vars) ≤ state_limit
    pub named_vars : list_all is_named_var v.vars ≡ true
    pub few_props : length v.props ≤ prop_limit
    pub declared : has_twice v.props ≡ false
    pub named_props : list_all is_prop_name v.props ≡ true

  pub are_sound : AreSound
  are_sound =
      let tenth = and_parts _ _ declared10.0 in
      let ninth = and_parts _ _ tenth.0 in
      let eighth = and_parts _ _ ninth.0 in
      let seventh = and_parts _ _ eighth.0 in
      let sixth = and_parts _ _ seventh.0 in
      let fifth = and_parts _ _ sixth.0 in
      let fourth = and_parts _ _ fifth.0 in
      let third = and_parts _ _ fourth.0 in
      let second = and_parts _ _ third.0 in
      let states = and_parts _ _ sixth.1 in
      let domains = and_parts _ _ states.0 in
      let varied = and_parts _ _ domains.0 in
      let many = and_parts _ _ varied.0 in
      record {
        name = second.0;
        some_use = leb-true 1 (length v.uses) second.1;
        few_uses = leb-true (length v.uses) use_limit third.1;
        used = not-true _ fourth.1;
        named_uses = fifth.1;
        some_var = leb-true 1 (length v.vars) many.0;
        varied = not-true _ varied.1;
        domains = domains.1;
        states = leb-true (total (sizes_of v.vars)) state_limit states.1;
        named_vars = seventh.1;
        few_props = leb-true (length v.props) prop_limit eighth.1;
        declared = not-true _ ninth.1;
        named_props = tenth.1;
      }

  is_declared : IsDeclared v
  is_declared =
      record {
        used = are_sound.used;
        named_uses = are_sound.named_uses;
        varied = are_sound.varied;
        named_vars = are_sound.named_vars;
        domains = are_sound.domains;
        declared = are_sound.declared;
        named_props = props_are_names v.props are_sound.named_props;
      }

  -- the statements before each kind
  abbrev b1 : List Statement
  b1 = Map v.name ∷ []

  abbrev b2 : List Statement
  b2 = b1 ++ map Use v.uses

  abbrev b3 : List Statement
  b3 = b2 ++ map Var v.vars

  abbrev b4 : List Statement
  b4 = b3 ++ map Prop v.props

  abbrev b5 : List Statement
  b5 = b4 ++ map (sending v) v.sends

  abbrev b6 : List Statement
  b6 = b5 ++ map (telling v) v.tells

  -- what they declare
  b2_vars : vars_of b2 ≡ []
  b2_vars = vars_append b1 (map Use v.uses) ∙ vars_use v.uses

  b3_uses : uses_of b3 ≡ v.uses
  b3_uses = uses_append b2 (map Var v.vars) ∙ rw (uses_append b1 (map Use v.uses), uses_use v.uses, uses_var v.vars, append-nil)

  b3_vars : vars_of b3 ≡ v.vars
  b3_vars = vars_append b2 (map Var v.vars) ∙ rw (b2_vars, vars_var v.vars)

  b3_props : props_of b3 ≡ []
  b3_props = props_append b2 (map Var v.vars) ∙ rw (props_append b1 (map Use v.uses), props_use v.uses, props_var v.vars)

  b4_behind : IsBehind v.uses v.vars v.props b4
  b4_behind =
      record {
        used = uses_append b3 (map Prop v.props) ∙ rw (b3_uses, uses_prop v.props, append-nil);
        varied = vars_append b3 (map Prop v.props) ∙ rw (b3_vars, vars_prop v.props, append-nil);
        declared = props_append b3 (map Prop v.props) ∙ rw (b3_props, props_prop v.props);
        due = λ s late. due_maybe b3 Prop v.props s (λ p. prop_then_late p s late) (due_kind b2 Var v.vars s (λ d. var_then_late d s late) are_sound.some_var);
      }

  b4_early : list_any is_late b4 ≡ false
  b4_early =
      list_any-append is_late b3 (map Prop v.props)
      ∙ or_from _ _ (list_any-append is_late b2 (map Var v.vars)
      ∙ or_from _ _ (none_passes is_late Use v.uses (λ u. refl)) (none_passes is_late Var v.vars (λ d. refl))) (none_passes is_late Prop v.props (λ p. refl))

  -- each kind is faultless after those before it
  head_fine : IsFaultless map_format [] (spelling (Map v.name)) (Map v.name)
  head_fine = record { due = record { spelled = refl; named = are_sound.name; placed = refl }; first = refl; known = refl; few = refl }

  k1 : AreFaultless b1 (map Use v.uses)
  k1 = uses_fine b1 v.uses (λ u. refl) are_sound.named_uses are_sound.used are_sound.few_uses

  k2 : AreFaultless b2 (map Var v.vars)
  k2 =
      vars_fine b2 v.vars (λ d. due_kind b1 Use v.uses (Var d) (λ u. refl) are_sound.some_use) are_sound.named_vars
      (ap (λ (ds : List Domain). has_twice (names_of (ds ++ v.vars))) b2_vars ∙ are_sound.varied) are_sound.domains
      (subst (λ (ds : List Domain). total (sizes_of (ds ++ v.vars)) ≤ state_limit) (sym b2_vars) are_sound.states)

  k3 : AreFaultless b3 (map Prop v.props)
  k3 =
      props_fine b3 v.props (λ p. due_kind b2 Var v.vars (Prop p) (λ d. refl) are_sound.some_var) are_sound.named_props
      (ap (λ (ps : List (List ℕ)). has_twice (ps ++ v.props)) b3_props ∙ are_sound.declared)
      (subst (λ (ps : List (List ℕ)). length (ps ++ v.props) ≤ prop_limit) (sym b3_props) are_sound.few_props)

  k4 : AreFaultless b4 (map (sending v) v.sends)
  k4 =
      late_faultless (sending v) (is_send_in v) same_send v.uses v.vars v.props (λ l. refl) (send_again v is_declared)
      (λ before l b fit new. send_fine v is_declared l fit before b new) b4 v.sends b4_behind told.0
      (new_by (sending v) (is_send_in v) same_send v.uses v.vars v.props (λ l. refl) (send_again v is_declared) (λ before l b fit new. send_fine v is_declared l fit before b new) b4 v.sends (λ l. early_again (sending v l) b4 b4_early)) told.1

  b5_behind : IsBehind v.uses v.vars v.props b5
  b5_behind =
      behind_all (sending v) (is_send_in v) same_send v.uses v.vars v.props (λ l. refl) (send_again v is_declared)
      (λ before l b fit new. send_fine v is_declared l fit before b new) b4 v.sends b4_behind

  tell_new : (l : tellings.Tell) → list_any (says_again (telling v l)) b5 ≡ false
  tell_new l =
      list_any-append (says_again (telling v l)) b4 (map (sending v) v.sends)
      ∙ or_from _ _ (early_again (telling v l) b4 b4_early) (other_kind (telling v l) (sending v) v.sends (λ m. refl))

  k5 : AreFaultless b5 (map (telling v) v.tells)
  k5 =
      late_faultless (telling v) (is_tell_in v) same_tell v.uses v.vars v.props (λ l. refl) (tell_again v is_declared)
      (λ before l b fit new. tell_fine v is_declared l fit before b new) b5 v.tells b5_behind told.2
      (new_by (telling v) (is_tell_in v) same_tell v.uses v.vars v.props (λ l. refl) (tell_again v is_declared) (λ before l b fit new. tell_fine v is_declared l fit before b new) b5 v.tells tell_new) told.3

  b6_behind : IsBehind v.uses v.vars v.props b6
  b6_behind =
      behind_all (telling v) (is_tell_in v) same_tell v.uses v.vars v.props (λ l. refl) (tell_again v is_declared)
      (λ before l b fit new. tell_fine v is_declared l fit before b new) b5 v.tells b5_behind

  stutter_new : (l : gaps.Stutter) → list_any (says_again (stuttering v l)) b6 ≡ false
  stutter_new l =
      list_any-append (says_again (stuttering v l)) b5 (map (telling v) v.tells)
      ∙ or_from _ _
      (list_any-append (says_again (stuttering v l)) b4 (map (sending v) v.sends)
      ∙ or_from _ _ (early_again (stuttering v l) b4 b4_early) (other_kind (stuttering v l) (sending v) v.sends (λ m. refl)))
      (other_kind (stuttering v l) (telling v) v.tells (λ m. refl))

  k6 : AreFaultless b6 (map (stuttering v) v.stutters)
  k6 =
      late_faultless (stuttering v) (is_stutter_in v) same_stutter v.uses v.vars v.props (λ l. refl) (stutter_again v is_declared)
      (λ before l b fit new. stutter_fine v is_declared before l b fit new) b6 v.stutters b6_behind told.4
      (new_by (stuttering v) (is_stutter_in v) same_stutter v.uses v.vars v.props (λ l. refl) (stutter_again v is_declared) (λ before l b fit new. stutter_fine v is_declared before l b fit new) b6 v.stutters stutter_new) told.5

  pub all_faultless : AreFaultless [] (statements_in v)
  all_faultless = (
    head_fine,
    faultless_join map_format spelling b1 (map Use v.uses) _ k1
        (faultless_join map_format spelling b2 (map Var v.vars) _ k2
        (faultless_join map_format spelling b3 (map Prop v.props) _ k3
        (faultless_join map_format spelling b4 (map (sending v) v.sends) _ k4
        (faultless_join map_format spelling b5 (map (telling v) v.tells) (map (stuttering v) v.stutters) k5 k6)))),
  )

  -- no part lacks
  none_lacks : (ss : List Statement) → 1 ≤ length (uses_of ss) → 1 ≤ length (vars_of ss) → missing_part ss ≡ None
  none_lacks [] u d = absurd (omega arith)
  none_lacks (s ∷ more) u d = rw (lt-ltb 0 (length (uses_of (s ∷ more))) u, lt-ltb 0 (length (vars_of (s ∷ more))) d)

  -- and they say the map
  map_says : (ss : List Statement) → first_name ss ≡ v.name → uses_of ss ≡ v.uses → vars_of ss ≡ v.vars → props_of ss ≡ v.props
      → sends_of v.uses v.vars ss ≡ v.sends → tells_of v.uses v.props ss ≡ v.tells → stutters_of v.uses ss ≡ v.stutters
      → v ≡ map_of ss
  map_says ss n u d p s t g = rw (n, u, d, p, s, t, g)

  pub reads_again : IsAccepted map_format (numbered 1 (map_lines v)) v
  reads_again =
      let uses = all_uses v in
      let vars = all_vars v in
      record {
        statements = statements_in v;
        read = are_statements map_format spelling [] (statements_in v) 1 all_faultless;
        whole = none_lacks (statements_in v) (subst (λ (us : List viewpoints.Use). 1 ≤ length us) (sym uses) are_sound.some_use) (subst (λ (ds : List Domain). 1 ≤ length ds) (sym vars) are_sound.some_var);
        says =
            map_says (statements_in v) refl uses vars (all_props v)
            (all_sends v (sends_back v is_declared v.sends told.0)) (all_tells v (tells_back v is_declared v.tells told.2)) (all_stutters v (stutters_back v is_declared v.stutters told.4));
      }
