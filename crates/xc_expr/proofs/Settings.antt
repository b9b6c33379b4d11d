-- Settings that set a variable twice, as a loop goes over them.
use Rattle.std.proofs.Common.{◌≡◌, ℕ, suc, ◌+◌, ◌<◌, ◌||◌, false, List, [], ◌∷◌, map, length, drop, drop-cons, get_or, add-one, ◌++◌, append_assoc, append-nil, Option, Some, None, refl, sym, ap, ◌∙◌}
use Rattle.std.specs.Option.{option_map}
use Rattle.std.specs.Str.{bytes_eq}
use Rattle.std.proofs.lemmas.List.{drop-drop}
use Rattle.xc_base.specs.Names.{is_among}
use Rattle.xc_expr.specs.Written.{set}
use Rattle.xc_expr.specs.Resolving.{set_name, sets_twice, both, resolved_action}
use Rattle.xc_expr.specs.KnownSettings.{name_set, is_set_in, repeats_first, repeats, resolved_setting, resolves}
use Rattle.xc_expr.specs.declared.assign.Assign.{Assign}
use Rattle.xc_forms.specs.declared.domain.Domain.{Domain}
use Rattle.xc_expr.specs.declared.setting.Setting.{Setting}

-- a name is among those that are set
pub set_among : (name : List ℕ) (settings : List Setting) → is_among (map set_name (map set settings)) name ≡ is_set_in name settings
unfolding is_set_in name_set
set_among name [] = refl
set_among name (s ∷ more) = ap (λ b. bytes_eq name (name_set s) || b) (set_among name more)

-- the first setting, and the others
repeats_cons : (settings : List Setting) → repeats settings ≡ (repeats_first settings || repeats (drop 1 settings))
unfolding repeats repeats_first name_set
repeats_cons [] = refl
repeats_cons (s ∷ more) = ap (λ b. b || sets_twice (map set more)) (set_among (set_name (set s)) more)

pub repeats_from : (settings : List Setting) (i : ℕ) → i < length settings → repeats (drop i settings) ≡ (repeats_first (drop i settings) || repeats (drop (i + 1) settings))
repeats_from settings i h = repeats_cons (drop i settings) ∙ ap (λ more. repeats_first (drop i settings) || repeats more) (drop-drop 1 i settings)

pub none_repeats : repeats [] ≡ false
unfolding repeats
none_repeats = refl

-- what is known, with one more
pub known_more : {X : Type 0} (a : X) (known : List X) (more : Option (List X)) → option_map (λ rest. known ++ rest) (both (λ b rest. b ∷ rest) (Some a) more) ≡ option_map (λ rest. (known ++ a ∷ []) ++ rest) more
known_more a known None = refl
known_more a known (Some more) = ap Some (sym (append_assoc known (a ∷ []) more))

resolves_cons : (vars : List Domain) (known : List Assign) (s : Setting) (more : List Setting) (a : Assign) → resolved_setting vars s ≡ Some a → resolves vars known (s ∷ more) ≡ resolves vars (known ++ a ∷ []) more
unfolding resolves resolved_setting
resolves_cons vars known s more a e = rw e (known_more a known (resolved_action vars (map set more)))

resolves_stop : (vars : List Domain) (known : List Assign) (s : Setting) (more : List Setting) → resolved_setting vars s ≡ None → resolves vars known (s ∷ more) ≡ None
unfolding resolves resolved_setting
resolves_stop vars known s more e = rw e refl

-- a setting with known names is one more assignment
pub resolves_known : (vars : List Domain) (known : List Assign) (settings : List Setting) (i : ℕ) (d : Setting) (a : Assign) → i < length settings → resolved_setting vars (get_or settings i d) ≡ Some a → resolves vars known (drop i settings) ≡ resolves vars (known ++ a ∷ []) (drop (i + 1) settings)
resolves_known vars known settings i d a h e = rw (add-one, drop-cons settings i d) (resolves_cons vars known (get_or settings i d) (drop (suc i) settings) a e)

-- one with an unknown name ends it
pub resolves_unknown : (vars : List Domain) (known : List Assign) (settings : List Setting) (i : ℕ) (d : Setting) → i < length settings → resolved_setting vars (get_or settings i d) ≡ None → resolves vars known (drop i settings) ≡ None
resolves_unknown vars known settings i d h e = rw (drop-cons settings i d) (resolves_stop vars known (get_or settings i d) (drop (suc i) settings) e)

pub resolves_none : (vars : List Domain) (known : List Assign) → resolves vars known [] ≡ Some known
unfolding resolves
resolves_none vars known = rw append-nil refl

-- nothing before it
pub option_same : {X : Type 0} (o : Option (List X)) → option_map (λ more. [] ++ more) o ≡ o
option_same None = refl
option_same (Some more) = refl

pub resolves_is : (vars : List Domain) (settings : List Setting) → resolves vars [] settings ≡ resolved_action vars (map set settings)
unfolding resolves
resolves_is vars settings = option_same (resolved_action vars (map set settings))
