-- Faultless statements, one after another, are fair.
use Rattle.std.proofs.Common.{◌≡◌, ℕ, ◌<◌, Bool, true, false, ◌&&◌, ◌||◌, List, [], ◌∷◌, ◌++◌, length, Some, None, refl, sym, ◌∙◌, ap, subst, arith}
use Rattle.std.specs.List.{list_all, list_any}
use Rattle.std.proofs.lemmas.Bool.{and_from, and_parts, or_parts, or_from, not_from_false, not-false, both_ways}
use Rattle.std.proofs.lemmas.List.{map-id}
use Rattle.std.proofs.lemmas.List.Elements.{filter_map-append}
use Rattle.std.proofs.lemmas.List.Folds.{list_any-append}
use Rattle.xc_base.specs.Names.{is_among, has_twice}
use Rattle.xc_base.specs.Formats.{IsFaultless}
use Rattle.xc_forms.specs.Variables.{names_of, sizes_of}
use Rattle.xc_forms.specs.declared.domain.Domain.{Domain}
use Rattle.xc_forms.specs.VariableLines.{is_var_again, var_excess}
use Rattle.xc_forms.proofs.FaultlessLines.{all_push, below_limit, same_declared, once_new as kept_once, few_new, sized_new}
use Rattle.xc_sigmap_lines.specs.declared.parts.Use as viewpoints
use Rattle.xc_sigmap_lines.specs.declared.statement.Statement.{Statement}
use Rattle.xc_sigmap_lines.specs.declared.statement.Statement.TheVariants.{Map, Use, Var, Prop, Send, Tell, Stutter}
use Rattle.xc_sigmap_lines.specs.MapFiles.{is_late, may_follow, last_of, is_due, has_names, uses_of, vars_of, props_of, use_names, carried_names, values_named, says_again, has_use, has_source, is_repeated, is_unknown, use_limit, prop_limit, use_in, var_in, prop_in, excess_of, map_format}
use Rattle.xc_sigmap.specs.Sound.{has_two}
use Rattle.xc_sigmap.specs.Drafts.{begins, ends_late, is_known, IsFair}

-- one statement more, and what it declares
pub uses_append : (ss ts : List Statement) → uses_of (ss ++ ts) ≡ uses_of ss ++ uses_of ts
uses_append ss ts = filter_map-append use_in ss ts

pub vars_append : (ss ts : List Statement) → vars_of (ss ++ ts) ≡ vars_of ss ++ vars_of ts
vars_append ss ts = filter_map-append var_in ss ts

pub props_append : (ss ts : List Statement) → props_of (ss ++ ts) ≡ props_of ss ++ props_of ts
props_append ss ts = filter_map-append prop_in ss ts

-- the beginning stays right
begins_push : (ss : List Statement) (s : Statement) → begins ss ≡ true → is_due ss s ≡ true → begins (ss ++ s ∷ []) ≡ true
begins_push [] s b h = h
begins_push (r ∷ more) s b h = b

-- nothing is said again, and nothing by one item more
pub two_push : {X : Type 0} (again : X → X → Bool) (xs : List X) (x : X) → has_two again xs ≡ false → list_any (again x) xs ≡ false → has_two again (xs ++ x ∷ []) ≡ false
two_push again [] x h k = refl
two_push again (y ∷ xs) x h k =
    let first = or_parts (list_any (λ z. again z y) xs) (has_two again xs) h in
    let new = or_parts (again x y) (list_any (again x) xs) k in
    or_from (list_any (λ z. again z y) (xs ++ x ∷ [])) (has_two again (xs ++ x ∷ []))
    (list_any-append (λ z. again z y) xs (x ∷ []) ∙ or_from (list_any (λ z. again z y) xs) (again x y || false) first.0 (or_from (again x y) false new.0 refl))
    (two_push again xs x first.1 new.1)

-- a statement that declares something new
new_use : (ss : List Statement) (s : Statement) (u : viewpoints.Use) → use_in s ≡ Some u → is_repeated ss s ≡ false → is_among (use_names (uses_of ss)) u.name ≡ false
new_use ss (Use v) u e r = let same : v ≡ u = cc in subst (λ (w : viewpoints.Use). is_among (use_names (uses_of ss)) w.name ≡ false) same r
new_use ss (Map name) u e r = cc
new_use ss (Var d) u e r = cc
new_use ss (Prop name) u e r = cc
new_use ss (Send viewpoint variable source pairs) u e r = cc
new_use ss (Tell viewpoint prop told) u e r = cc
new_use ss (Stutter viewpoint value) u e r = cc

few_use : (ss : List Statement) (s : Statement) (u : viewpoints.Use) → use_in s ≡ Some u → excess_of ss s ≡ None → length (uses_of ss) < use_limit
few_use ss (Use v) u e few = below_limit use_limit (length (uses_of ss)) _ few
few_use ss (Map name) u e few = cc
few_use ss (Var d) u e few = cc
few_use ss (Prop name) u e few = cc
few_use ss (Send viewpoint variable source pairs) u e few = cc
few_use ss (Tell viewpoint prop told) u e few = cc
few_use ss (Stutter viewpoint value) u e few = cc

new_prop : (ss : List Statement) (s : Statement) (p : List ℕ) → prop_in s ≡ Some p → is_repeated ss s ≡ false → is_among (props_of ss) p ≡ false
new_prop ss (Prop q) p e r = let same : q ≡ p = cc in subst (λ (x : List ℕ). is_among (props_of ss) x ≡ false) same r
new_prop ss (Map name) p e r = cc
new_prop ss (Use u) p e r = cc
new_prop ss (Var d) p e r = cc
new_prop ss (Send viewpoint variable source pairs) p e r = cc
new_prop ss (Tell viewpoint prop told) p e r = cc
new_prop ss (Stutter viewpoint value) p e r = cc

few_prop : (ss : List Statement) (s : Statement) (p : List ℕ) → prop_in s ≡ Some p → excess_of ss s ≡ None → length (props_of ss) < prop_limit
few_prop ss (Prop q) p e few = below_limit prop_limit (length (props_of ss)) _ few
few_prop ss (Map name) p e few = cc
few_prop ss (Use u) p e few = cc
few_prop ss (Var d) p e few = cc
few_prop ss (Send viewpoint variable source pairs) p e few = cc
few_prop ss (Tell viewpoint prop told) p e few = cc
few_prop ss (Stutter viewpoint value) p e few = cc

once_props : (ss : List Statement) (s : Statement) → has_twice (props_of ss) ≡ false → is_repeated ss s ≡ false → has_twice (props_of (ss ++ s ∷ [])) ≡ false
once_props ss s h r =
    let own : List ℕ → List ℕ = λ p. p in
    ap has_twice (sym (map-id (props_of (ss ++ s ∷ []))))
    ∙ kept_once prop_in own ss s (ap has_twice (map-id (props_of ss)) ∙ h) (λ p e. ap (λ (ps : List (List ℕ)). is_among ps p) (map-id (props_of ss)) ∙ new_prop ss s p e r)

abbrev IsNewVar : List Statement → Domain → Type 0
IsNewVar ss d = (is_var_again (vars_of ss) d ≡ false) × (var_excess (sizes_of (vars_of ss)) (length d.values) ≡ None)

new_var : (ss : List Statement) (s : Statement) (d : Domain) → var_in s ≡ Some d → is_repeated ss s ≡ false → excess_of ss s ≡ None → IsNewVar ss d
new_var ss (Var c) d e r few = let same : c ≡ d = cc in subst (IsNewVar ss) same (r, few)
new_var ss (Map name) d e r few = cc
new_var ss (Use u) d e r few = cc
new_var ss (Prop name) d e r few = cc
new_var ss (Send viewpoint variable source pairs) d e r few = cc
new_var ss (Tell viewpoint prop told) d e r few = cc
new_var ss (Stutter viewpoint value) d e r few = cc

-- what says again what was said is of a late kind
none_again_map : (name : List ℕ) (ss : List Statement) → list_any (says_again (Map name)) ss ≡ false
none_again_map x [] = refl
none_again_map x (s ∷ ss) = none_again_map x ss

none_again_use : (u : viewpoints.Use) (ss : List Statement) → list_any (says_again (Use u)) ss ≡ false
none_again_use x [] = refl
none_again_use x (s ∷ ss) = none_again_use x ss

none_again_var : (d : Domain) (ss : List Statement) → list_any (says_again (Var d)) ss ≡ false
none_again_var x [] = refl
none_again_var x (s ∷ ss) = none_again_var x ss

none_again_prop : (name : List ℕ) (ss : List Statement) → list_any (says_again (Prop name)) ss ≡ false
none_again_prop x [] = refl
none_again_prop x (s ∷ ss) = none_again_prop x ss

once_new : (ss : List Statement) (s : Statement) → is_repeated ss s ≡ false → list_any (says_again s) ss ≡ false
once_new ss (Map name) r = none_again_map name ss
once_new ss (Use u) r = none_again_use u ss
once_new ss (Var d) r = none_again_var d ss
once_new ss (Prop name) r = none_again_prop name ss
once_new ss (Send viewpoint variable source pairs) r = (or_parts (list_any (says_again (Send viewpoint variable source pairs)) ss) (has_twice (carried_names pairs)) r).0
once_new ss (Tell viewpoint prop told) r = r
once_new ss (Stutter viewpoint value) r = r

-- what stands before a statement on names is none that names them
follows_early : (r s : Statement) → may_follow r s ≡ true → is_late s ≡ false → is_late r ≡ false
follows_early (Map name) s h e = refl
follows_early (Use u) s h e = refl
follows_early (Var d) s h e = refl
follows_early (Prop name) s h e = refl
follows_early (Send viewpoint variable source pairs) s h e = absurd (both_ways (is_late s) e h)
follows_early (Tell viewpoint prop told) s h e = absurd (both_ways (is_late s) e h)
follows_early (Stutter viewpoint value) s h e = absurd (both_ways (is_late s) e h)

early_end : (ss : List Statement) (s : Statement) → is_due ss s ≡ true → is_late s ≡ false → ends_late ss ≡ false
early_end [] s h e = refl
early_end (r ∷ more) s h e = follows_early (last_of r more) s h e

-- the last of statements with one more
pub last_push : (r : Statement) (more : List Statement) (s : Statement) → last_of r (more ++ s ∷ []) ≡ s
last_push r [] s = refl
last_push r (t ∷ more) s = last_push t more s

pub ends_push : (ss : List Statement) (s : Statement) → ends_late (ss ++ s ∷ []) ≡ is_late s
ends_push [] s = refl
ends_push (r ∷ more) s = ap is_late (last_push r more s)

or_true : (a : Bool) → (a || true) ≡ true
or_true true = refl
or_true false = refl

-- a late statement stands before late ones alone
late_new : (ss : List Statement) (s : Statement) → is_due ss s ≡ true → list_any is_late ss ≡ ends_late ss → list_any is_late (ss ++ s ∷ []) ≡ ends_late (ss ++ s ∷ [])
late_new ss s due h = list_any-append is_late ss (s ∷ []) ∙ joined (is_late s) refl ∙ sym (ends_push ss s)
  where
    joined : (b : Bool) → is_late s ≡ b → (list_any is_late ss || (is_late s || false)) ≡ is_late s
    joined true e = rw e (or_true (list_any is_late ss))
    joined false e = rw (e, h, early_end ss s due e)

-- where no statement names what is declared all is known, whatever is declared
none_unknown : (uses : List viewpoints.Use) (vars : List Domain) (props : List (List ℕ)) (ss : List Statement) → list_any is_late ss ≡ false → list_all (is_known uses vars props) ss ≡ true
none_unknown uses vars props [] h = refl
none_unknown uses vars props (Map name ∷ ss) h = none_unknown uses vars props ss h
none_unknown uses vars props (Use u ∷ ss) h = none_unknown uses vars props ss h
none_unknown uses vars props (Var d ∷ ss) h = none_unknown uses vars props ss h
none_unknown uses vars props (Prop name ∷ ss) h = none_unknown uses vars props ss h
none_unknown uses vars props (Send viewpoint variable source pairs ∷ ss) h = cc
none_unknown uses vars props (Tell viewpoint prop told ∷ ss) h = cc
none_unknown uses vars props (Stutter viewpoint value ∷ ss) h = cc

-- what is known of statements and of one more, by what all of them declare
abbrev KnownIn : List Statement → List Statement → Type 0
KnownIn all ss = list_all (is_known (uses_of all) (vars_of all) (props_of all)) ss ≡ true

early_known : (uses : List viewpoints.Use) (vars : List Domain) (props : List (List ℕ)) (s : Statement) → is_late s ≡ false → is_known uses vars props s ≡ true
early_known uses vars props (Map name) h = refl
early_known uses vars props (Use u) h = refl
early_known uses vars props (Var d) h = refl
early_known uses vars props (Prop name) h = refl
early_known uses vars props (Send viewpoint variable source pairs) h = cc
early_known uses vars props (Tell viewpoint prop told) h = cc
early_known uses vars props (Stutter viewpoint value) h = cc

-- a late statement declares nothing
no_uses : (s : Statement) → is_late s ≡ true → use_in s ≡ None
no_uses (Map name) h = cc
no_uses (Use u) h = cc
no_uses (Var d) h = cc
no_uses (Prop name) h = cc
no_uses (Send viewpoint variable source pairs) h = refl
no_uses (Tell viewpoint prop told) h = refl
no_uses (Stutter viewpoint value) h = refl

pub same_uses : (ss : List Statement) (s : Statement) → is_late s ≡ true → uses_of (ss ++ s ∷ []) ≡ uses_of ss
same_uses ss s h = same_declared use_in ss s (no_uses s h)

no_vars : (s : Statement) → is_late s ≡ true → var_in s ≡ None
no_vars (Map name) h = cc
no_vars (Use u) h = cc
no_vars (Var d) h = cc
no_vars (Prop name) h = cc
no_vars (Send viewpoint variable source pairs) h = refl
no_vars (Tell viewpoint prop told) h = refl
no_vars (Stutter viewpoint value) h = refl

pub same_vars : (ss : List Statement) (s : Statement) → is_late s ≡ true → vars_of (ss ++ s ∷ []) ≡ vars_of ss
same_vars ss s h = same_declared var_in ss s (no_vars s h)

no_props : (s : Statement) → is_late s ≡ true → prop_in s ≡ None
no_props (Map name) h = cc
no_props (Use u) h = cc
no_props (Var d) h = cc
no_props (Prop name) h = cc
no_props (Send viewpoint variable source pairs) h = refl
no_props (Tell viewpoint prop told) h = refl
no_props (Stutter viewpoint value) h = refl

pub same_props : (ss : List Statement) (s : Statement) → is_late s ≡ true → props_of (ss ++ s ∷ []) ≡ props_of ss
same_props ss s h = same_declared prop_in ss s (no_props s h)

-- what a late statement names is known
late_known : (ss : List Statement) (s : Statement) → is_late s ≡ true → is_repeated ss s ≡ false → is_unknown ss s ≡ false → is_known (uses_of ss) (vars_of ss) (props_of ss) s ≡ true
late_known ss (Map name) l r k = cc
late_known ss (Use u) l r k = cc
late_known ss (Var d) l r k = cc
late_known ss (Prop name) l r k = cc
late_known ss (Send viewpoint variable source pairs) l r k =
    let here = not-false (has_use ss viewpoint && has_source ss source pairs) k in
    let parts = and_parts (has_use ss viewpoint) (has_source ss source pairs) here in
    let from_ = and_parts (is_among (names_of (vars_of ss)) source) (list_all (is_among (values_named (vars_of ss) source)) (carried_names pairs)) parts.1 in
    let different = (or_parts (list_any (says_again (Send viewpoint variable source pairs)) ss) (has_twice (carried_names pairs)) r).1 in
    and_from _ _ (and_from _ _ (and_from _ _ parts.0 from_.0) from_.1) (not_from_false (has_twice (carried_names pairs)) different)
late_known ss (Tell viewpoint prop told) l r k = not-false (has_use ss viewpoint && is_among (props_of ss) prop) k
late_known ss (Stutter viewpoint value) l r k = not-false (has_use ss viewpoint) k

-- names stay known to the last
known_new : (ss : List Statement) (s : Statement) → is_due ss s ≡ true → is_repeated ss s ≡ false → is_unknown ss s ≡ false → list_any is_late ss ≡ ends_late ss → KnownIn ss ss → KnownIn (ss ++ s ∷ []) (ss ++ s ∷ [])
known_new ss s due r u late known = by_kind (is_late s) refl
  where
    by_kind : (b : Bool) → is_late s ≡ b → KnownIn (ss ++ s ∷ []) (ss ++ s ∷ [])
    by_kind true e =
        rw (same_uses ss s e, same_vars ss s e, same_props ss s e)
        (all_push (is_known (uses_of ss) (vars_of ss) (props_of ss)) ss s known (late_known ss s e r u))
    by_kind false e =
        all_push (is_known (uses_of (ss ++ s ∷ [])) (vars_of (ss ++ s ∷ [])) (props_of (ss ++ s ∷ []))) ss s
        (none_unknown (uses_of (ss ++ s ∷ [])) (vars_of (ss ++ s ∷ [])) (props_of (ss ++ s ∷ [])) ss (late ∙ early_end ss s due e))
        (early_known (uses_of (ss ++ s ∷ [])) (vars_of (ss ++ s ∷ [])) (props_of (ss ++ s ∷ [])) s e)

-- a faultless statement behind fair ones
pub next_is_fair : (ss : List Statement) (tokens : List (List ℕ)) (s : Statement) → IsFair ss → IsFaultless map_format ss tokens s → IsFair (ss ++ s ∷ [])
next_is_fair ss tokens s h k =
    record {
      starts = begins_push ss s h.starts k.due.placed;
      named = all_push has_names ss s h.named k.due.named;
      used = kept_once use_in (λ (u : viewpoints.Use). u.name) ss s h.used (λ u e. new_use ss s u e k.first);
      few_uses = few_new use_in use_limit ss s h.few_uses (λ u e. few_use ss s u e k.few);
      sized = sized_new var_in ss s h.sized (λ d e. new_var ss s d e k.first k.few);
      declared = once_props ss s h.declared k.first;
      few_props = few_new prop_in prop_limit ss s h.few_props (λ p e. few_prop ss s p e k.few);
      known = known_new ss s k.due.placed k.first k.known h.late h.known;
      once = two_push says_again ss s h.once (once_new ss s k.first);
      late = late_new ss s k.due.placed h.late;
    }

-- no statement at all
pub none_is_fair : IsFair []
none_is_fair = record { starts = refl; named = refl; used = refl; few_uses = omega arith; sized = record { different = refl; domains = refl; states = omega arith }; declared = refl; few_props = omega arith; known = refl; once = refl; late = refl }
