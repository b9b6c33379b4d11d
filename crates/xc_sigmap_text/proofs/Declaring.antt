-- The declarations of a sound map, one after another, are faultless.
use Rattle.std.proofs.Common.{◌≡◌, ℕ, ◌<◌, ◌≤◌, true, false, List, [], ◌∷◌, ◌++◌, map, length, length-append, refl, sym, ◌∙◌, ap, subst, append_assoc, arith}
use Rattle.std.specs.List.{list_all}
use Rattle.std.proofs.lemmas.Bool.{and_parts}
use Rattle.std.proofs.lemmas.List.{map-append}
use Rattle.xc_theory.specs.Codes.{total}
use Rattle.xc_base.specs.Names.{is_among, has_twice}
use Rattle.xc_forms.specs.Variables.{names_of, sizes_of, is_domain, state_limit}
use Rattle.xc_forms.specs.declared.domain.Domain.{Domain}
use Rattle.xc_forms.specs.VariableLines.{is_named_var}
use Rattle.xc_forms.proofs.Restating.{not_before, no_excess}
use Rattle.xc_forms.proofs.Restating as forms
use Rattle.xc_sigmap_lines.specs.declared.parts.Use as viewpoints
use Rattle.xc_sigmap_lines.specs.declared.statement.Statement.{Statement}
use Rattle.xc_sigmap_lines.specs.declared.statement.Statement.TheVariants.{Use, Var, Prop}
use Rattle.xc_sigmap_lines.specs.MapFiles.{is_due, is_prop_name, uses_of, vars_of, props_of, use_names, use_limit, prop_limit, spelling, var_in, map_format}
use Rattle.xc_sigmap.specs.Sound.{is_named_use}
use Rattle.xc_sigmap.proofs.Fair.{uses_append, props_append}
use Rattle.xc_sigmap_text.proofs.Restating.{AreFaultless, due_after}

-- viewpoints
pub uses_fine : (before : List Statement) (us : List viewpoints.Use) → ((u : viewpoints.Use) → is_due before (Use u) ≡ true) → list_all is_named_use us ≡ true
    → has_twice (use_names (uses_of before ++ us)) ≡ false → length (uses_of before ++ us) ≤ use_limit → AreFaultless before (map Use us)
uses_fine before [] d n t f = tt
uses_fine before (u ∷ us) d n t f =
    let parts = and_parts (is_named_use u) (list_all is_named_use us) n in
    let new : is_among (use_names (uses_of before)) u.name ≡ false =
    not_before (use_names (uses_of before)) u.name (use_names us) (sym (ap has_twice (map-append (λ (w : viewpoints.Use). w.name) (uses_of before) (u ∷ us))) ∙ t) in
    let few : length (uses_of before) < use_limit = omega (arith, length-append (uses_of before) (u ∷ us)) in
    let same : uses_of (before ++ Use u ∷ []) ++ us ≡ uses_of before ++ u ∷ us = ap (λ (ws : List viewpoints.Use). ws ++ us) (uses_append before (Use u ∷ [])) ∙ append_assoc (uses_of before) (u ∷ []) us in (
      record { due = record { spelled = refl; named = parts.0; placed = d u }; first = new; known = refl; few = no_excess use_limit (length (uses_of before)) _ few },
      uses_fine (before ++ Use u ∷ []) us (λ w. due_after before (Use u) (Use w)) parts.1
          (ap (λ (ws : List viewpoints.Use). has_twice (use_names ws)) same ∙ t)
          (subst (λ (ws : List viewpoints.Use). length ws ≤ use_limit) (sym same) f),
    )

-- propositions
pub props_fine : (before : List Statement) (ps : List (List ℕ)) → ((p : List ℕ) → is_due before (Prop p) ≡ true) → list_all is_prop_name ps ≡ true
    → has_twice (props_of before ++ ps) ≡ false → length (props_of before ++ ps) ≤ prop_limit → AreFaultless before (map Prop ps)
props_fine before [] d n t f = tt
props_fine before (p ∷ ps) d n t f =
    let parts = and_parts (is_prop_name p) (list_all is_prop_name ps) n in
    let new : is_among (props_of before) p ≡ false = not_before (props_of before) p ps t in
    let few : length (props_of before) < prop_limit = omega (arith, length-append (props_of before) (p ∷ ps)) in
    let same : props_of (before ++ Prop p ∷ []) ++ ps ≡ props_of before ++ p ∷ ps = ap (λ (ws : List (List ℕ)). ws ++ ps) (props_append before (Prop p ∷ [])) ∙ append_assoc (props_of before) (p ∷ []) ps in (
      record { due = record { spelled = refl; named = parts.0; placed = d p }; first = new; known = refl; few = no_excess prop_limit (length (props_of before)) _ few },
      props_fine (before ++ Prop p ∷ []) ps (λ w. due_after before (Prop p) (Prop w)) parts.1
          (ap has_twice same ∙ t)
          (subst (λ (ws : List (List ℕ)). length ws ≤ prop_limit) (sym same) f),
    )

-- variables
pub vars_fine : (before : List Statement) (vs : List Domain) → ((d : Domain) → is_due before (Var d) ≡ true) → list_all is_named_var vs ≡ true
    → has_twice (names_of (vars_of before ++ vs)) ≡ false → list_all is_domain vs ≡ true → total (sizes_of (vars_of before ++ vs)) ≤ state_limit → AreFaultless before (map Var vs)
vars_fine before vs due named once domains few =
    forms.vars_fine map_format spelling var_in Var (λ d. refl) (λ ss. (d : Domain) → is_due ss (Var d) ≡ true) (λ ss d due e. due_after ss (Var d) (Var e))
    (λ ss d due named new fits. record { due = record { spelled = refl; named = named; placed = due d }; first = new; known = refl; few = fits })
    before vs due named once domains few
