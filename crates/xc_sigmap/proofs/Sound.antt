-- What fair statements of a whole file say is sound.
use Rattle.std.proofs.Common.{◌≡◌, ℕ, ◌<◌, ◌≤◌, ◌==◌, Bool, true, false, ◌&&◌, not, if◌then◌else◌, nat_lt, List, [], ◌∷◌, map, length, Some, None, refl, sym, ◌∙◌, ap, subst, arith}
use Rattle.std.specs.List.{list_all, list_any}
use Rattle.std.specs.Str.{bytes_eq}
use Rattle.std.proofs.lemmas.Bool.{and_parts, and_from, or_parts, or_from, not-true, not_from_false, ltb-true, lt-ltb, le-leb, eq-eqb, ne_eqb}
use Rattle.std.proofs.lemmas.List.{length-map}
use Rattle.xc_base.specs.Names.{is_among, has_twice, place_of}
use Rattle.xc_base.specs.Words.{is_name}
use Rattle.xc_base.specs.declared.fault.Part.{Part}
use Rattle.xc_base.specs.declared.fault.Part.TheVariants as parts
use Rattle.xc_base.proofs.Naming.{same_bytes, bytes_refl, among_in_range, name_at-place_of}
use Rattle.xc_base.specs.Names.{name_at}
use Rattle.xc_forms.specs.Variables.{names_of, values_at}
use Rattle.xc_forms.specs.VariableNames.{is_variable_name, is_value_name}
use Rattle.xc_forms.specs.declared.domain.Domain.{Domain}
use Rattle.xc_forms.specs.VariableLines.{is_named_var}
use Rattle.xc_sigmap_lines.specs.declared.parts.Use as viewpoints
use Rattle.xc_sigmap_lines.specs.declared.parts.Carry.{Carry}
use Rattle.xc_sigmap_lines.specs.declared.parts.SendLine.{SendLine}
use Rattle.xc_sigmap_lines.specs.declared.parts.Tell as tellings
use Rattle.xc_sigmap_lines.specs.declared.parts.Told.{Told}
use Rattle.xc_sigmap_lines.specs.declared.parts.Stutter as gaps
use Rattle.xc_sigmap_lines.specs.declared.statement.Pair.{Pair}
use Rattle.xc_sigmap_lines.specs.declared.statement.Statement.{Statement}
use Rattle.xc_sigmap_lines.specs.declared.statement.Statement.TheVariants.{Map, Use, Var, Prop, Send, Tell, Stutter}
use Rattle.xc_sigmap_lines.specs.MapFiles.{MapValue, has_names, is_named_pair, is_prop_name, told_word, uses_of, vars_of, props_of, use_names, carried_names, values_named, says_again, use_limit, prop_limit, missing_part, first_name, carry, sends_of, tells_of, stutters_of, map_of}
use Rattle.xc_sigmap.specs.Sound.{has_two, is_named_use, same_value, same_send, same_tell, same_stutter, is_carry_in, is_send_in, is_tell_in, is_stutter_in, are_declared, are_told, is_sound}
use Rattle.xc_sigmap.specs.Drafts.{begins, is_known, IsFair}
use Rattle.xc_forms.proofs.Sizes.{fit_from_sized}

-- an option with a value is not empty
some_is_not : {X : Type 0} (x : X) → Some x ≡ None → ⊥
some_is_not x e = cc

-- names that are there are the same where their places are
pub place_same : (names : List (List ℕ)) (x y : List ℕ) → is_among names x ≡ true → is_among names y ≡ true → (place_of names x == place_of names y) ≡ bytes_eq x y
place_same names x y hx hy = by_names (bytes_eq x y) refl
  where
    by_names : (b : Bool) → bytes_eq x y ≡ b → (place_of names x == place_of names y) ≡ b
    by_names true e = eq-eqb (place_of names x) (place_of names y) (ap (place_of names) (same_bytes x y e))
    by_names false e =
        ne_eqb (place_of names x) (place_of names y)
        (λ (same : place_of names x ≡ place_of names y).
        let equal : x ≡ y = sym (name_at-place_of names x hx) ∙ ap (name_at names) same ∙ name_at-place_of names y hy in
        let both : bytes_eq x y ≡ true = subst (λ (z : List ℕ). bytes_eq x z ≡ true) equal (bytes_refl x) in
        let never : false ≡ true = sym e ∙ both in
        cc)

-- two names differ either way round
not_same : (x y : List ℕ) → bytes_eq y x ≡ false → bytes_eq x y ≡ false
not_same x y n = by_names (bytes_eq x y) refl
  where
    by_names : (b : Bool) → bytes_eq x y ≡ b → b ≡ false
    by_names false e = refl
    by_names true e =
        let both : bytes_eq y x ≡ true = subst (λ (z : List ℕ). bytes_eq z x ≡ true) (same_bytes x y e) (bytes_refl x) in
        let never : false ≡ true = sym n ∙ both in
        cc

-- a place of a name is in range
in_range : (names : List (List ℕ)) (x : List ℕ) (n : ℕ) → n ≡ length names → is_among names x ≡ true → nat_lt (place_of names x) n ≡ true
in_range names x n e h = let within = among_in_range names x h in lt-ltb (place_of names x) n (omega arith)

-- what pairs carry, of a variable with these values
module _ (values : List (List ℕ)) where
  carries_in : (pairs : List Pair) → list_all is_named_pair pairs ≡ true → list_all (is_among values) (carried_names pairs) ≡ true → list_all (is_carry_in values) (map (carry values) pairs) ≡ true
  carries_in [] h k = refl
  carries_in (p ∷ more) h k =
      let named = and_parts (is_named_pair p) (list_all is_named_pair more) h in
      let known = and_parts (is_among values p.from) (list_all (is_among values) (carried_names more)) k in
      and_from _ _ (and_from _ _ (in_range values p.from (length values) refl known.0) (and_parts (is_name p.from) (is_name p.to) named.0).1) (carries_in more named.1 known.1)

  carries_differ : (p : Pair) (more : List Pair) → is_among values p.from ≡ true → list_all (is_among values) (carried_names more) ≡ true → is_among (carried_names more) p.from ≡ false
      → list_any (λ (c : Carry). same_value c (carry values p)) (map (carry values) more) ≡ false
  carries_differ p [] h k d = refl
  carries_differ p (q ∷ more) h k d =
      let known = and_parts (is_among values q.from) (list_all (is_among values) (carried_names more)) k in
      let other = or_parts (bytes_eq p.from q.from) (is_among (carried_names more) p.from) d in
      or_from _ _ (place_same values q.from p.from known.0 h ∙ not_same q.from p.from other.0) (carries_differ p more h known.1 other.1)

  carries_once : (pairs : List Pair) → list_all (is_among values) (carried_names pairs) ≡ true → has_twice (carried_names pairs) ≡ false → has_two same_value (map (carry values) pairs) ≡ false
  carries_once [] k d = refl
  carries_once (p ∷ more) k d =
      let known = and_parts (is_among values p.from) (list_all (is_among values) (carried_names more)) k in
      let rest = or_parts (is_among (carried_names more) p.from) (has_twice (carried_names more)) d in
      or_from _ _ (carries_differ p more known.0 known.1 rest.0) (carries_once more known.1 rest.1)

-- statements that name what these declare
module _ (uses : List viewpoints.Use) (vars : List Domain) (props : List (List ℕ)) where
  abbrev AreKnown : List Statement → Type 0
  AreKnown ss = list_all (is_known uses vars props) ss ≡ true

  -- no later one says again what a line said
  -- the viewpoints and propositions that lines name
  send_use : (viewpoint variable source : List ℕ) (pairs : List Pair) → is_known uses vars props (Send viewpoint variable source pairs) ≡ true → is_among (use_names uses) viewpoint ≡ true
  send_use viewpoint variable source pairs h = (and_parts _ _ (and_parts _ _ (and_parts _ _ h).0).0).0

  send_source : (viewpoint variable source : List ℕ) (pairs : List Pair) → is_known uses vars props (Send viewpoint variable source pairs) ≡ true → is_among (names_of vars) source ≡ true
  send_source viewpoint variable source pairs h = (and_parts _ _ (and_parts _ _ (and_parts _ _ h).0).0).1

  send_values : (viewpoint variable source : List ℕ) (pairs : List Pair) → is_known uses vars props (Send viewpoint variable source pairs) ≡ true → list_all (is_among (values_named vars source)) (carried_names pairs) ≡ true
  send_values viewpoint variable source pairs h = (and_parts _ _ (and_parts _ _ h).0).1

  send_once : (viewpoint variable source : List ℕ) (pairs : List Pair) → is_known uses vars props (Send viewpoint variable source pairs) ≡ true → has_twice (carried_names pairs) ≡ false
  send_once viewpoint variable source pairs h = not-true (has_twice (carried_names pairs)) (and_parts _ _ h).1

  sends_differ : (viewpoint variable source : List ℕ) (pairs : List Pair) (more : List Statement) → is_known uses vars props (Send viewpoint variable source pairs) ≡ true → AreKnown more → list_any (λ (t : Statement). says_again t (Send viewpoint variable source pairs)) more ≡ false
      → list_any (λ (l : SendLine). same_send l (record { viewpoint = place_of (use_names uses) viewpoint; variable = variable; from = place_of (names_of vars) source; pairs = map (carry (values_named vars source)) pairs })) (sends_of uses vars more) ≡ false
  sends_differ viewpoint variable source pairs [] h k d = refl
  sends_differ viewpoint variable source pairs (Map name ∷ more) h k d = sends_differ viewpoint variable source pairs more h k d
  sends_differ viewpoint variable source pairs (Use u ∷ more) h k d = sends_differ viewpoint variable source pairs more h k d
  sends_differ viewpoint variable source pairs (Var domain ∷ more) h k d = sends_differ viewpoint variable source pairs more h k d
  sends_differ viewpoint variable source pairs (Prop name_ ∷ more) h k d = sends_differ viewpoint variable source pairs more h k d
  sends_differ viewpoint variable source pairs (Send other its source_ carried ∷ more) h k d =
      let now = and_parts (is_known uses vars props (Send other its source_ carried)) (list_all (is_known uses vars props) more) k in
      let said = or_parts (says_again (Send other its source_ carried) (Send viewpoint variable source pairs)) (list_any (λ (t : Statement). says_again t (Send viewpoint variable source pairs)) more) d in
      or_from _ _ (ap (λ (b : Bool). b && bytes_eq its variable) (place_same (use_names uses) other viewpoint (send_use other its source_ carried now.0) (send_use viewpoint variable source pairs h)) ∙ said.0) (sends_differ viewpoint variable source pairs more h now.1 said.1)
  sends_differ viewpoint variable source pairs (Tell other its tells ∷ more) h k d = sends_differ viewpoint variable source pairs more h (and_parts _ _ k).1 (or_parts (says_again (Tell other its tells) (Send viewpoint variable source pairs)) _ d).1
  sends_differ viewpoint variable source pairs (Stutter other its ∷ more) h k d = sends_differ viewpoint variable source pairs more h (and_parts _ _ k).1 (or_parts (says_again (Stutter other its) (Send viewpoint variable source pairs)) _ d).1

  sends_once : (ss : List Statement) → AreKnown ss → has_two says_again ss ≡ false → has_two same_send (sends_of uses vars ss) ≡ false
  sends_once [] k d = refl
  sends_once (Map name ∷ more) k d = sends_once more k (or_parts _ _ d).1
  sends_once (Use u ∷ more) k d = sends_once more k (or_parts _ _ d).1
  sends_once (Var domain ∷ more) k d = sends_once more k (or_parts _ _ d).1
  sends_once (Prop name ∷ more) k d = sends_once more k (or_parts _ _ d).1
  sends_once (Send viewpoint variable source pairs ∷ more) k d =
      let now = and_parts (is_known uses vars props (Send viewpoint variable source pairs)) (list_all (is_known uses vars props) more) k in
      let rest = or_parts (list_any (λ (t : Statement). says_again t (Send viewpoint variable source pairs)) more) (has_two says_again more) d in
      or_from _ _ (sends_differ viewpoint variable source pairs more now.0 now.1 rest.0) (sends_once more now.1 rest.1)
  sends_once (Tell viewpoint prop told ∷ more) k d = sends_once more (and_parts _ _ k).1 (or_parts _ _ d).1
  sends_once (Stutter viewpoint value ∷ more) k d = sends_once more (and_parts _ _ k).1 (or_parts _ _ d).1

  tells_differ : (viewpoint prop : List ℕ) (told : Told) (more : List Statement) → is_known uses vars props (Tell viewpoint prop told) ≡ true → AreKnown more → list_any (λ (t : Statement). says_again t (Tell viewpoint prop told)) more ≡ false
      → list_any (λ (l : tellings.Tell). same_tell l (record { viewpoint = place_of (use_names uses) viewpoint; prop = place_of props prop; told = told })) (tells_of uses props more) ≡ false
  tells_differ viewpoint prop told [] h k d = refl
  tells_differ viewpoint prop told (Map name ∷ more) h k d = tells_differ viewpoint prop told more h k d
  tells_differ viewpoint prop told (Use u ∷ more) h k d = tells_differ viewpoint prop told more h k d
  tells_differ viewpoint prop told (Var domain ∷ more) h k d = tells_differ viewpoint prop told more h k d
  tells_differ viewpoint prop told (Prop name_ ∷ more) h k d = tells_differ viewpoint prop told more h k d
  tells_differ viewpoint prop told (Send other its source_ carried ∷ more) h k d = tells_differ viewpoint prop told more h (and_parts _ _ k).1 (or_parts (says_again (Send other its source_ carried) (Tell viewpoint prop told)) _ d).1
  tells_differ viewpoint prop told (Tell other its tells ∷ more) h k d =
      let now = and_parts (is_known uses vars props (Tell other its tells)) (list_all (is_known uses vars props) more) k in
      let said = or_parts (says_again (Tell other its tells) (Tell viewpoint prop told)) (list_any (λ (t : Statement). says_again t (Tell viewpoint prop told)) more) d in
      or_from _ _ (ap (λ (b : Bool). b && (place_of props its == place_of props prop)) (place_same (use_names uses) other viewpoint (and_parts _ _ now.0).0 (and_parts _ _ h).0) ∙ ap (λ (b : Bool). bytes_eq other viewpoint && b) (place_same props its prop (and_parts _ _ now.0).1 (and_parts _ _ h).1) ∙ said.0) (tells_differ viewpoint prop told more h now.1 said.1)
  tells_differ viewpoint prop told (Stutter other its ∷ more) h k d = tells_differ viewpoint prop told more h (and_parts _ _ k).1 (or_parts (says_again (Stutter other its) (Tell viewpoint prop told)) _ d).1

  tells_once : (ss : List Statement) → AreKnown ss → has_two says_again ss ≡ false → has_two same_tell (tells_of uses props ss) ≡ false
  tells_once [] k d = refl
  tells_once (Map name ∷ more) k d = tells_once more k (or_parts _ _ d).1
  tells_once (Use u ∷ more) k d = tells_once more k (or_parts _ _ d).1
  tells_once (Var domain ∷ more) k d = tells_once more k (or_parts _ _ d).1
  tells_once (Prop name ∷ more) k d = tells_once more k (or_parts _ _ d).1
  tells_once (Send viewpoint variable source pairs ∷ more) k d = tells_once more (and_parts _ _ k).1 (or_parts _ _ d).1
  tells_once (Tell viewpoint prop told ∷ more) k d =
      let now = and_parts (is_known uses vars props (Tell viewpoint prop told)) (list_all (is_known uses vars props) more) k in
      let rest = or_parts (list_any (λ (t : Statement). says_again t (Tell viewpoint prop told)) more) (has_two says_again more) d in
      or_from _ _ (tells_differ viewpoint prop told more now.0 now.1 rest.0) (tells_once more now.1 rest.1)
  tells_once (Stutter viewpoint value ∷ more) k d = tells_once more (and_parts _ _ k).1 (or_parts _ _ d).1

  stutters_differ : (viewpoint value : List ℕ) (more : List Statement) → is_known uses vars props (Stutter viewpoint value) ≡ true → AreKnown more → list_any (λ (t : Statement). says_again t (Stutter viewpoint value)) more ≡ false
      → list_any (λ (l : gaps.Stutter). same_stutter l (record { viewpoint = place_of (use_names uses) viewpoint; value = value })) (stutters_of uses more) ≡ false
  stutters_differ viewpoint value [] h k d = refl
  stutters_differ viewpoint value (Map name ∷ more) h k d = stutters_differ viewpoint value more h k d
  stutters_differ viewpoint value (Use u ∷ more) h k d = stutters_differ viewpoint value more h k d
  stutters_differ viewpoint value (Var domain ∷ more) h k d = stutters_differ viewpoint value more h k d
  stutters_differ viewpoint value (Prop name_ ∷ more) h k d = stutters_differ viewpoint value more h k d
  stutters_differ viewpoint value (Send other its source_ carried ∷ more) h k d = stutters_differ viewpoint value more h (and_parts _ _ k).1 (or_parts (says_again (Send other its source_ carried) (Stutter viewpoint value)) _ d).1
  stutters_differ viewpoint value (Tell other its tells ∷ more) h k d = stutters_differ viewpoint value more h (and_parts _ _ k).1 (or_parts (says_again (Tell other its tells) (Stutter viewpoint value)) _ d).1
  stutters_differ viewpoint value (Stutter other its ∷ more) h k d =
      let now = and_parts (is_known uses vars props (Stutter other its)) (list_all (is_known uses vars props) more) k in
      let said = or_parts (says_again (Stutter other its) (Stutter viewpoint value)) (list_any (λ (t : Statement). says_again t (Stutter viewpoint value)) more) d in
      or_from _ _ (place_same (use_names uses) other viewpoint now.0 h ∙ said.0) (stutters_differ viewpoint value more h now.1 said.1)

  stutters_once : (ss : List Statement) → AreKnown ss → has_two says_again ss ≡ false → has_two same_stutter (stutters_of uses ss) ≡ false
  stutters_once [] k d = refl
  stutters_once (Map name ∷ more) k d = stutters_once more k (or_parts _ _ d).1
  stutters_once (Use u ∷ more) k d = stutters_once more k (or_parts _ _ d).1
  stutters_once (Var domain ∷ more) k d = stutters_once more k (or_parts _ _ d).1
  stutters_once (Prop name ∷ more) k d = stutters_once more k (or_parts _ _ d).1
  stutters_once (Send viewpoint variable source pairs ∷ more) k d = stutters_once more (and_parts _ _ k).1 (or_parts _ _ d).1
  stutters_once (Tell viewpoint prop told ∷ more) k d = stutters_once more (and_parts _ _ k).1 (or_parts _ _ d).1
  stutters_once (Stutter viewpoint value ∷ more) k d =
      let now = and_parts (is_known uses vars props (Stutter viewpoint value)) (list_all (is_known uses vars props) more) k in
      let rest = or_parts (list_any (λ (t : Statement). says_again t (Stutter viewpoint value)) more) (has_two says_again more) d in
      or_from _ _ (stutters_differ viewpoint value more now.0 now.1 rest.0) (stutters_once more now.1 rest.1)

  -- each line is in range
  sends_in : (v : MapValue) (ss : List Statement) → v.uses ≡ uses → v.vars ≡ vars → v.props ≡ props → list_all has_names ss ≡ true → AreKnown ss → list_all (is_send_in v) (sends_of uses vars ss) ≡ true
  sends_in v [] e f g h k = refl
  sends_in v (Map name ∷ more) e f g h k = sends_in v more e f g (and_parts _ _ h).1 k
  sends_in v (Use u ∷ more) e f g h k = sends_in v more e f g (and_parts _ _ h).1 k
  sends_in v (Var d ∷ more) e f g h k = sends_in v more e f g (and_parts _ _ h).1 k
  sends_in v (Prop name ∷ more) e f g h k = sends_in v more e f g (and_parts _ _ h).1 k
  sends_in v (Send viewpoint variable source pairs ∷ more) e f g h k =
      let now = and_parts (is_known uses vars props (Send viewpoint variable source pairs)) (list_all (is_known uses vars props) more) k in
      let words = and_parts (has_names (Send viewpoint variable source pairs)) (list_all has_names more) h in
      let named = and_parts (is_name viewpoint && is_name variable && is_name source) (list_all is_named_pair pairs) words.0 in
      let first = in_range (use_names uses) viewpoint (length v.uses) (ap length e ∙ sym (length-map uses (λ (u : viewpoints.Use). u.name))) (send_use viewpoint variable source pairs now.0) in
      let from_ = in_range (names_of vars) source (length v.vars) (ap length f ∙ sym (length-map vars (λ (d : Domain). d.name))) (send_source viewpoint variable source pairs now.0) in
      let same : values_at v.vars (place_of (names_of vars) source) ≡ values_named vars source = ap (λ (ds : List Domain). values_at ds (place_of (names_of vars) source)) f in
      let carried = subst (λ (values : List (List ℕ)). list_all (is_carry_in values) (map (carry (values_named vars source)) pairs) ≡ true) (sym same) (carries_in (values_named vars source) pairs named.1 (send_values viewpoint variable source pairs now.0)) in
      let once = not_from_false _ (carries_once (values_named vars source) pairs (send_values viewpoint variable source pairs now.0) (send_once viewpoint variable source pairs now.0)) in
      and_from _ _ (and_from _ _ (and_from _ _ (and_from _ _ (and_from _ _ first (and_parts _ _ (and_parts _ _ named.0).0).1) from_) carried) once) (sends_in v more e f g words.1 now.1)
  sends_in v (Tell viewpoint prop told ∷ more) e f g h k = sends_in v more e f g (and_parts _ _ h).1 (and_parts _ _ k).1
  sends_in v (Stutter viewpoint value ∷ more) e f g h k = sends_in v more e f g (and_parts _ _ h).1 (and_parts _ _ k).1

  tells_in : (v : MapValue) (ss : List Statement) → v.uses ≡ uses → v.vars ≡ vars → v.props ≡ props → list_all has_names ss ≡ true → AreKnown ss → list_all (is_tell_in v) (tells_of uses props ss) ≡ true
  tells_in v [] e f g h k = refl
  tells_in v (Map name ∷ more) e f g h k = tells_in v more e f g (and_parts _ _ h).1 k
  tells_in v (Use u ∷ more) e f g h k = tells_in v more e f g (and_parts _ _ h).1 k
  tells_in v (Var d ∷ more) e f g h k = tells_in v more e f g (and_parts _ _ h).1 k
  tells_in v (Prop name ∷ more) e f g h k = tells_in v more e f g (and_parts _ _ h).1 k
  tells_in v (Send viewpoint variable source pairs ∷ more) e f g h k = tells_in v more e f g (and_parts _ _ h).1 (and_parts _ _ k).1
  tells_in v (Tell viewpoint prop told ∷ more) e f g h k =
      let now = and_parts (is_known uses vars props (Tell viewpoint prop told)) (list_all (is_known uses vars props) more) k in
      let words = and_parts (has_names (Tell viewpoint prop told)) (list_all has_names more) h in
      let named = and_parts (is_name viewpoint && is_name prop) (is_name (told_word told)) words.0 in
      let there = and_parts (is_among (use_names uses) viewpoint) (is_among props prop) now.0 in
      let first = in_range (use_names uses) viewpoint (length v.uses) (ap length e ∙ sym (length-map uses (λ (u : viewpoints.Use). u.name))) there.0 in
      let second = in_range props prop (length v.props) (ap length g) there.1 in
      and_from _ _ (and_from _ _ (and_from _ _ first second) named.1) (tells_in v more e f g words.1 now.1)
  tells_in v (Stutter viewpoint value ∷ more) e f g h k = tells_in v more e f g (and_parts _ _ h).1 (and_parts _ _ k).1

  stutters_in : (v : MapValue) (ss : List Statement) → v.uses ≡ uses → v.vars ≡ vars → v.props ≡ props → list_all has_names ss ≡ true → AreKnown ss → list_all (is_stutter_in v) (stutters_of uses ss) ≡ true
  stutters_in v [] e f g h k = refl
  stutters_in v (Map name ∷ more) e f g h k = stutters_in v more e f g (and_parts _ _ h).1 k
  stutters_in v (Use u ∷ more) e f g h k = stutters_in v more e f g (and_parts _ _ h).1 k
  stutters_in v (Var d ∷ more) e f g h k = stutters_in v more e f g (and_parts _ _ h).1 k
  stutters_in v (Prop name ∷ more) e f g h k = stutters_in v more e f g (and_parts _ _ h).1 k
  stutters_in v (Send viewpoint variable source pairs ∷ more) e f g h k = stutters_in v more e f g (and_parts _ _ h).1 (and_parts _ _ k).1
  stutters_in v (Tell viewpoint prop told ∷ more) e f g h k = stutters_in v more e f g (and_parts _ _ h).1 (and_parts _ _ k).1
  stutters_in v (Stutter viewpoint value ∷ more) e f g h k =
      let now = and_parts (is_known uses vars props (Stutter viewpoint value)) (list_all (is_known uses vars props) more) k in
      let words = and_parts (has_names (Stutter viewpoint value)) (list_all has_names more) h in
      let first = in_range (use_names uses) viewpoint (length v.uses) (ap length e ∙ sym (length-map uses (λ (u : viewpoints.Use). u.name))) now.0 in
      and_from _ _ (and_from _ _ first (and_parts _ _ words.0).1) (stutters_in v more e f g words.1 now.1)

-- the words of what is declared
uses_named : (ss : List Statement) → list_all has_names ss ≡ true → list_all is_named_use (uses_of ss) ≡ true
uses_named [] h = refl
uses_named (Map name ∷ more) h = uses_named more (and_parts _ _ h).1
uses_named (Use u ∷ more) h =
    let parts = and_parts (has_names (Use u)) (list_all has_names more) h in
    and_from _ _ parts.0 (uses_named more parts.1)
uses_named (Var d ∷ more) h = uses_named more (and_parts _ _ h).1
uses_named (Prop name ∷ more) h = uses_named more (and_parts _ _ h).1
uses_named (Send viewpoint variable source pairs ∷ more) h = uses_named more (and_parts _ _ h).1
uses_named (Tell viewpoint prop told ∷ more) h = uses_named more (and_parts _ _ h).1
uses_named (Stutter viewpoint value ∷ more) h = uses_named more (and_parts _ _ h).1

vars_named : (ss : List Statement) → list_all has_names ss ≡ true → list_all is_named_var (vars_of ss) ≡ true
vars_named [] h = refl
vars_named (Map name ∷ more) h = vars_named more (and_parts _ _ h).1
vars_named (Use u ∷ more) h = vars_named more (and_parts _ _ h).1
vars_named (Var d ∷ more) h =
    let parts = and_parts (has_names (Var d)) (list_all has_names more) h in
    let words = and_parts (is_variable_name d.name) (nat_lt 0 (length d.values) && list_all is_value_name d.values) parts.0 in
    and_from _ _ (and_from _ _ words.0 (and_parts _ _ words.1).1) (vars_named more parts.1)
vars_named (Prop name ∷ more) h = vars_named more (and_parts _ _ h).1
vars_named (Send viewpoint variable source pairs ∷ more) h = vars_named more (and_parts _ _ h).1
vars_named (Tell viewpoint prop told ∷ more) h = vars_named more (and_parts _ _ h).1
vars_named (Stutter viewpoint value ∷ more) h = vars_named more (and_parts _ _ h).1

props_named : (ss : List Statement) → list_all has_names ss ≡ true → list_all is_prop_name (props_of ss) ≡ true
props_named [] h = refl
props_named (Map name ∷ more) h = props_named more (and_parts _ _ h).1
props_named (Use u ∷ more) h = props_named more (and_parts _ _ h).1
props_named (Var d ∷ more) h = props_named more (and_parts _ _ h).1
props_named (Prop name ∷ more) h =
    let parts = and_parts (has_names (Prop name)) (list_all has_names more) h in
    and_from _ _ parts.0 (props_named more parts.1)
props_named (Send viewpoint variable source pairs ∷ more) h = props_named more (and_parts _ _ h).1
props_named (Tell viewpoint prop told ∷ more) h = props_named more (and_parts _ _ h).1
props_named (Stutter viewpoint value ∷ more) h = props_named more (and_parts _ _ h).1

-- what whole files have
pub one_there : (ss : List Statement) → missing_part ss ≡ None → 1 ≤ length ss
one_there [] h = absurd (some_is_not parts.Head h)
one_there (s ∷ more) h = omega arith

-- a viewpoint and a variable
both_there : (a b : Bool) (x y : Part) → (if not a then Some x else if not b then Some y else None) ≡ None → (a ≡ true) × (b ≡ true)
both_there true true x y h = (refl, refl)
both_there true false x y h = absurd (some_is_not y h)
both_there false b x y h = absurd (some_is_not x h)

declared_there : (ss : List Statement) → missing_part ss ≡ None → (0 < length (uses_of ss)) × (0 < length (vars_of ss))
declared_there [] h = absurd (some_is_not parts.Head h)
declared_there (s ∷ more) h =
    let there = both_there (nat_lt 0 (length (uses_of (s ∷ more)))) (nat_lt 0 (length (vars_of (s ∷ more)))) parts.Uses parts.Var h in
    (ltb-true 0 (length (uses_of (s ∷ more))) there.0, ltb-true 0 (length (vars_of (s ∷ more))) there.1)

pub use_there : (ss : List Statement) → missing_part ss ≡ None → 0 < length (uses_of ss)
use_there ss h = (declared_there ss h).0

pub var_there : (ss : List Statement) → missing_part ss ≡ None → 0 < length (vars_of ss)
var_there ss h = (declared_there ss h).1

-- the first statement has a name
head_named : (ss : List Statement) → 1 ≤ length ss → begins ss ≡ true → list_all has_names ss ≡ true → is_name (first_name ss) ≡ true
head_named [] some b h = absurd (omega arith)
head_named (Map name ∷ more) some b h = (and_parts _ _ h).0
head_named (Use u ∷ more) some b h = cc
head_named (Var d ∷ more) some b h = cc
head_named (Prop name ∷ more) some b h = cc
head_named (Send viewpoint variable source pairs ∷ more) some b h = cc
head_named (Tell viewpoint prop told ∷ more) some b h = cc
head_named (Stutter viewpoint value ∷ more) some b h = cc

-- what a whole file says is sound
pub map_is_sound : (ss : List Statement) → IsFair ss → missing_part ss ≡ None → is_sound (map_of ss) ≡ true
map_is_sound ss h m =
    let uses : List viewpoints.Use = uses_of ss in
    let vars : List Domain = vars_of ss in
    let props : List (List ℕ) = props_of ss in
    let fit = fit_from_sized vars h.sized (var_there ss m) in
    let first = and_from _ _ (head_named ss (one_there ss m) h.starts h.named) (le-leb 1 (length uses) (use_there ss m)) in
    let viewed = and_from _ _ (and_from _ _ (and_from _ _ first (le-leb (length uses) use_limit h.few_uses)) (not_from_false _ h.used)) (uses_named ss h.named) in
    let varied = and_from _ _ (and_from _ _ viewed fit) (vars_named ss h.named) in
    let declared = and_from _ _ (and_from _ _ (and_from _ _ varied (le-leb (length props) prop_limit h.few_props)) (not_from_false _ h.declared)) (props_named ss h.named) in
    let sent = and_from _ _ (sends_in uses vars props (map_of ss) ss refl refl refl h.named h.known) (not_from_false _ (sends_once uses vars props ss h.known h.once)) in
    let told = and_from _ _ (and_from _ _ sent (tells_in uses vars props (map_of ss) ss refl refl refl h.named h.known)) (not_from_false _ (tells_once uses vars props ss h.known h.once)) in
    let still = and_from _ _ (and_from _ _ told (stutters_in uses vars props (map_of ss) ss refl refl refl h.named h.known)) (not_from_false _ (stutters_once uses vars props ss h.known h.once)) in
    and_from (are_declared (map_of ss)) (are_told (map_of ss)) declared still
