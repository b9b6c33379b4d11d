-- A statement after others, and lists of statements each of which is faultless after those before it.
use Rattle.std.proofs.Common.{◌≡◌, ℕ, Bool, true, false, ◌||◌, not, List, [], ◌∷◌, ◌++◌, map, refl, sym, ◌∙◌, ap, subst, append_assoc}
use Rattle.std.specs.List.{list_any, list_all}
use Rattle.std.proofs.lemmas.Bool.{and_parts, and_from, or_parts, or_from, not-true, not_from_false}
use Rattle.std.proofs.lemmas.List.{append-nil}
use Rattle.std.proofs.lemmas.List.Folds.{list_any-append}
use Rattle.xc_base.specs.Formats.{IsFaultless}
use Rattle.xc_forms.specs.declared.domain.Domain.{Domain}
use Rattle.xc_forms.specs.FaultlessLines as forms
use Rattle.xc_sigmap_lines.specs.declared.parts.Use as viewpoints
use Rattle.xc_sigmap_lines.specs.declared.statement.Statement.{Statement}
use Rattle.xc_sigmap_lines.specs.declared.statement.Statement.TheVariants.{Map, Use, Var, Prop, Send, Tell, Stutter}
use Rattle.xc_sigmap_lines.specs.MapFiles.{spelling, is_late, may_follow, is_due, uses_of, vars_of, props_of, says_again, map_format}
use Rattle.xc_sigmap.specs.Sound.{has_two}
use Rattle.xc_sigmap.proofs.Fair.{last_push, same_uses, same_vars, same_props}

-- each statement is faultless after those before it
abbrev pub AreFaultless : List Statement → List Statement → Type 0
AreFaultless before ss = forms.AreFaultless map_format spelling before ss

-- what is due behind statements with one more
pub due_after : (before : List Statement) (s t : Statement) → is_due (before ++ s ∷ []) t ≡ may_follow s t
due_after [] s t = refl
due_after (r ∷ more) s t = ap (λ (u : Statement). may_follow u t) (last_push r more s)

-- a late one may follow a late one
pub late_after : (s t : Statement) → is_late s ≡ true → is_late t ≡ true → may_follow s t ≡ true
late_after (Map name) t h k = cc
late_after (Use u) t h k = cc
late_after (Var d) t h k = cc
late_after (Prop name) t h k = cc
late_after (Send viewpoint variable source pairs) t h k = k
late_after (Tell viewpoint prop told) t h k = k
late_after (Stutter viewpoint value) t h k = k

-- an early statement is said again by none
early_pair : (s t : Statement) → is_late t ≡ false → says_again s t ≡ false
early_pair (Map name) t h = refl
early_pair (Use u) t h = refl
early_pair (Var d) t h = refl
early_pair (Prop name) t h = refl
early_pair (Send viewpoint variable source pairs) (Map name) h = refl
early_pair (Send viewpoint variable source pairs) (Use u) h = refl
early_pair (Send viewpoint variable source pairs) (Var d) h = refl
early_pair (Send viewpoint variable source pairs) (Prop name) h = refl
early_pair (Send viewpoint variable source pairs) (Send other its source_ carried) h = cc
early_pair (Send viewpoint variable source pairs) (Tell other its tells) h = refl
early_pair (Send viewpoint variable source pairs) (Stutter other its) h = refl
early_pair (Tell viewpoint prop told) (Map name) h = refl
early_pair (Tell viewpoint prop told) (Use u) h = refl
early_pair (Tell viewpoint prop told) (Var d) h = refl
early_pair (Tell viewpoint prop told) (Prop name) h = refl
early_pair (Tell viewpoint prop told) (Send other its source_ carried) h = refl
early_pair (Tell viewpoint prop told) (Tell other its tells) h = cc
early_pair (Tell viewpoint prop told) (Stutter other its) h = refl
early_pair (Stutter viewpoint value) (Map name) h = refl
early_pair (Stutter viewpoint value) (Use u) h = refl
early_pair (Stutter viewpoint value) (Var d) h = refl
early_pair (Stutter viewpoint value) (Prop name) h = refl
early_pair (Stutter viewpoint value) (Send other its source_ carried) h = refl
early_pair (Stutter viewpoint value) (Tell other its tells) h = refl
early_pair (Stutter viewpoint value) (Stutter other its) h = cc

pub early_again : (s : Statement) (before : List Statement) → list_any is_late before ≡ false → list_any (says_again s) before ≡ false
early_again s [] h = refl
early_again s (t ∷ before) h =
    let parts = or_parts (is_late t) (list_any is_late before) h in
    or_from (says_again s t) (list_any (says_again s) before) (early_pair s t parts.0) (early_again s before parts.1)

-- what late statements may stand behind, with these declared
pub record IsBehind (uses : List viewpoints.Use) (vars : List Domain) (props : List (List ℕ)) (before : List Statement) : Type 0 where
  pub used : uses_of before ≡ uses
  pub varied : vars_of before ≡ vars
  pub declared : props_of before ≡ props
  pub due : (s : Statement) → is_late s ≡ true → is_due before s ≡ true

pub behind_late : (uses : List viewpoints.Use) (vars : List Domain) (props : List (List ℕ)) (before : List Statement) (s : Statement) → is_late s ≡ true → IsBehind uses vars props before → IsBehind uses vars props (before ++ s ∷ [])
behind_late uses vars props before s late h =
    record {
      used = same_uses before s late ∙ h.used;
      varied = same_vars before s late ∙ h.varied;
      declared = same_props before s late ∙ h.declared;
      due = λ t t_late. due_after before s t ∙ late_after s t late t_late;
    }

-- late statements of one kind, made of items that are fit
module _ {X : Type 0} (say : X → Statement) (fit : X → Bool) (same : X → X → Bool) (uses : List viewpoints.Use) (vars : List Domain) (props : List (List ℕ))
    (late : (x : X) → is_late (say x) ≡ true)
    (again : (x y : X) → fit x ≡ true → fit y ≡ true → says_again (say x) (say y) ≡ same x y)
    (fine : (before : List Statement) (x : X) → IsBehind uses vars props before → fit x ≡ true → list_any (says_again (say x)) before ≡ false → IsFaultless map_format before (spelling (say x)) (say x))
  where
    -- each of them is new after the others
    abbrev pub AreNew : List Statement → List X → Type 0
    AreNew before xs = list_all (λ x. not (list_any (says_again (say x)) before)) xs ≡ true

    new_push : (before : List Statement) (x : X) (xs : List X) → fit x ≡ true → list_all fit xs ≡ true → AreNew before xs → list_any (λ y. same y x) xs ≡ false → AreNew (before ++ say x ∷ []) xs
    new_push before x [] f g h k = refl
    new_push before x (y ∷ xs) f g h k =
        let fits = and_parts (fit y) (list_all fit xs) g in
        let news = and_parts (not (list_any (says_again (say y)) before)) (list_all (λ z. not (list_any (says_again (say z)) before)) xs) h in
        let others = or_parts (same y x) (list_any (λ z. same z x) xs) k in
        and_from (not (list_any (says_again (say y)) (before ++ say x ∷ []))) (list_all (λ z. not (list_any (says_again (say z)) (before ++ say x ∷ []))) xs)
        (not_from_false _
        (list_any-append (says_again (say y)) before (say x ∷ [])
        ∙ or_from (list_any (says_again (say y)) before) (says_again (say y) (say x) || false) (not-true _ news.0)
        (or_from (says_again (say y) (say x)) false (again y x fits.0 f ∙ others.0) refl)))
        (new_push before x xs f fits.1 news.1 others.1)

    pub late_faultless : (before : List Statement) (xs : List X) → IsBehind uses vars props before → list_all fit xs ≡ true → AreNew before xs → has_two same xs ≡ false → AreFaultless before (map say xs)
    late_faultless before [] b f h t = tt
    late_faultless before (x ∷ xs) b f h t =
        let fits = and_parts (fit x) (list_all fit xs) f in
        let news = and_parts (not (list_any (says_again (say x)) before)) (list_all (λ z. not (list_any (says_again (say z)) before)) xs) h in
        let rest = or_parts (list_any (λ y. same y x) xs) (has_two same xs) t in
        (fine before x b fits.0 (not-true _ news.0), late_faultless (before ++ say x ∷ []) xs (behind_late uses vars props before (say x) (late x) b) fits.1 (new_push before x xs fits.0 fits.1 news.1 rest.0) rest.1)

    pub behind_all : (before : List Statement) (xs : List X) → IsBehind uses vars props before → IsBehind uses vars props (before ++ map say xs)
    behind_all before [] b = subst (IsBehind uses vars props) (sym (append-nil before)) b
    behind_all before (x ∷ xs) b = subst (IsBehind uses vars props) (append_assoc before (say x ∷ []) (map say xs)) (behind_all (before ++ say x ∷ []) xs (behind_late uses vars props before (say x) (late x) b))

    pub new_by : (before : List Statement) (xs : List X) → ((x : X) → list_any (says_again (say x)) before ≡ false) → AreNew before xs
    new_by before [] h = refl
    new_by before (x ∷ xs) h = and_from _ (list_all (λ z. not (list_any (says_again (say z)) before)) xs) (not_from_false _ (h x)) (new_by before xs h)

-- statements of another kind do not say it
pub other_kind : {X : Type 0} (s : Statement) (say : X → Statement) (xs : List X) → ((x : X) → says_again s (say x) ≡ false) → list_any (says_again s) (map say xs) ≡ false
other_kind s say [] h = refl
other_kind s say (x ∷ xs) h = or_from (says_again s (say x)) (list_any (says_again s) (map say xs)) (h x) (other_kind s say xs h)
