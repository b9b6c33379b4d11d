-- The variables of faultless statements stay fit, one after another.
use Rattle.std.proofs.Common.{◌≡◌, ℕ, ◌<◌, ◌≤◌, Bool, true, false, ◌&&◌, ◌||◌, not, if◌then◌else◌, nat_lt, nat_le, List, [], ◌∷◌, ◌++◌, map, length, length-append, Option, Some, None, refl, sym, ◌∙◌, ap, subst, arith}
use Rattle.std.specs.List.{list_all, filter_map, cons_option}
use Rattle.std.specs.Str.{bytes_eq}
use Rattle.std.proofs.lemmas.Bool.{and_from, or_parts, or_from, ltb-true, ltb-false, not_from_false, false_from_ne_true, both_ways}
use Rattle.std.proofs.lemmas.List.{append-nil, map-append}
use Rattle.std.proofs.lemmas.List.Elements.{filter_map-append}
use Rattle.std.proofs.lemmas.List.Folds.{list_all-append, list_any-append}
use Rattle.xc_theory.specs.Codes.{total}
use Rattle.xc_base.specs.Names.{is_among, has_twice}
use Rattle.xc_base.specs.Formats.{Excess}
use Rattle.xc_base.proofs.Naming.{same_bytes, bytes_refl}
use Rattle.xc_base.specs.declared.fault.Counted.TheVariants as counted
use Rattle.xc_forms.specs.Variables.{names_of, sizes_of, is_domain, state_limit}
use Rattle.xc_forms.specs.declared.domain.Domain.{Domain}
use Rattle.xc_forms.specs.VariableLines.{is_var_again, var_excess, line_excess}
use Rattle.xc_forms.specs.FaultlessLines.{AreSized}

-- an option with a value is not empty
some_is_not : {X : Type 0} (x : X) → Some x ≡ None → ⊥
some_is_not x e = cc

-- all pass a test, and one more
pub all_push : {X : Type 0} (p : X → Bool) (xs : List X) (x : X) → list_all p xs ≡ true → p x ≡ true → list_all p (xs ++ x ∷ []) ≡ true
all_push p xs x a h = list_all-append p xs (x ∷ []) ∙ and_from (list_all p xs) (p x && true) a (and_from (p x) true h refl)

-- a name more that is not among the others
pub not_same : (x y : List ℕ) → bytes_eq y x ≡ false → bytes_eq x y ≡ false
not_same x y h =
    false_from_ne_true (bytes_eq x y) (λ (e : bytes_eq x y ≡ true).
    both_ways (bytes_eq y x) h (subst (λ (z : List ℕ). bytes_eq z x ≡ true) (same_bytes x y e) (bytes_refl x)))

-- names are different with the new one
pub once_push : (names : List (List ℕ)) (name : List ℕ) → has_twice names ≡ false → is_among names name ≡ false → has_twice (names ++ name ∷ []) ≡ false
once_push [] name h k = refl
once_push (x ∷ names) name h k =
    let first = or_parts (is_among names x) (has_twice names) h in
    let new = or_parts (bytes_eq name x) (is_among names name) k in
    or_from (is_among (names ++ name ∷ []) x) (has_twice (names ++ name ∷ []))
    (list_any-append (bytes_eq x) names (name ∷ []) ∙ or_from (is_among names x) (bytes_eq x name || false) first.0 (or_from (bytes_eq x name) false (not_same x name new.0) refl))
    (once_push names name first.1 new.1)

-- the limits of a variable
few_values : (sizes : List ℕ) (size : ℕ) → var_excess sizes size ≡ None → ((nat_le 2 size && nat_le size 16) ≡ true) × (total (sizes ++ size ∷ []) ≤ state_limit)
few_values sizes size h =
    let values : Excess = record { what = counted.Values; found = size } in
    let states : Excess = record { what = counted.States; found = total (sizes ++ size ∷ []) } in
    within (nat_le 2 size && nat_le size 16) (nat_lt state_limit (total (sizes ++ size ∷ []))) values states refl h
  where
    within : (a b : Bool) (x y : Excess) → nat_lt state_limit (total (sizes ++ size ∷ [])) ≡ b → (if not a then Some x else if b then Some y else None) ≡ None → (a ≡ true) × (total (sizes ++ size ∷ []) ≤ state_limit)
    within false b x y e h = absurd (some_is_not x h)
    within true true x y e h = absurd (some_is_not y h)
    within true false x y e h = (refl, ltb-false state_limit (total (sizes ++ size ∷ [])) e)

-- a new variable keeps the limits
pub sized_push : (vars : List Domain) (d : Domain) → AreSized vars → is_var_again vars d ≡ false → var_excess (sizes_of vars) (length d.values) ≡ None → AreSized (vars ++ d ∷ [])
sized_push vars d h r few =
    let new = or_parts (is_among (names_of vars) d.name) (has_twice d.values) r in
    let limits = few_values (sizes_of vars) (length d.values) few in
    record {
      different = ap has_twice (map-append (λ (d : Domain). d.name) vars (d ∷ [])) ∙ once_push (names_of vars) d.name h.different new.0;
      domains = all_push is_domain vars d h.domains (and_from _ _ limits.0 (not_from_false (has_twice d.values) new.1));
      states = subst (λ (sizes : List ℕ). total sizes ≤ state_limit) (sym (map-append (λ (d : Domain). length d.values) vars (d ∷ []))) limits.1;
    }

-- the limits of lines
pub below_limit : (limit count : ℕ) (x : Excess) → line_excess limit count x ≡ None → count < limit
below_limit limit count x h = below (nat_lt count limit) refl h
  where
    below : (b : Bool) → nat_lt count limit ≡ b → (if b then None else Some x) ≡ None → count < limit
    below true e h = ltb-true count limit e
    below false e h = absurd (some_is_not x h)

-- what statements declare with one more of them, by what that one declares
module _ {S X : Type 0} (in_it : S → Option X) where
  pub declared_push : (ss : List S) (s : S) (o : Option X) → in_it s ≡ o → filter_map in_it (ss ++ s ∷ []) ≡ filter_map in_it ss ++ cons_option o []
  declared_push ss s o e = rw (filter_map-append in_it ss (s ∷ []), e)

  -- a statement that declares nothing
  pub same_declared : (ss : List S) (s : S) → in_it s ≡ None → filter_map in_it (ss ++ s ∷ []) ≡ filter_map in_it ss
  same_declared ss s e = declared_push ss s None e ∙ append-nil (filter_map in_it ss)

  -- names stay different, and few stay few
  module _ (name : X → List ℕ) (ss : List S) (s : S) (h : has_twice (map name (filter_map in_it ss)) ≡ false)
      (new : (x : X) → in_it s ≡ Some x → is_among (map name (filter_map in_it ss)) (name x) ≡ false) where
    pub once_new : has_twice (map name (filter_map in_it (ss ++ s ∷ []))) ≡ false
    once_new = by_kind (in_it s) refl
      where
        by_kind : (o : Option X) → in_it s ≡ o → has_twice (map name (filter_map in_it (ss ++ s ∷ []))) ≡ false
        by_kind None e = ap (λ (xs : List X). has_twice (map name xs)) (same_declared ss s e) ∙ h
        by_kind (Some x) e =
            ap (λ (xs : List X). has_twice (map name xs)) (declared_push ss s (Some x) e) ∙ ap has_twice (map-append name (filter_map in_it ss) (x ∷ []))
            ∙ once_push (map name (filter_map in_it ss)) (name x) h (new x e)

  module _ (limit : ℕ) (ss : List S) (s : S) (h : length (filter_map in_it ss) ≤ limit) (new : (x : X) → in_it s ≡ Some x → length (filter_map in_it ss) < limit) where
    pub few_new : length (filter_map in_it (ss ++ s ∷ [])) ≤ limit
    few_new = by_kind (in_it s) refl
      where
        by_kind : (o : Option X) → in_it s ≡ o → length (filter_map in_it (ss ++ s ∷ [])) ≤ limit
        by_kind None e = subst (λ (xs : List X). length xs ≤ limit) (sym (same_declared ss s e)) h
        by_kind (Some x) e = let below = new x e in let together = ap length (declared_push ss s (Some x) e) in omega (arith, length-append (filter_map in_it ss) (x ∷ []))

-- each faultless statement keeps the names and the limits of variables
module _ {S : Type 0} (var_in : S → Option Domain) (ss : List S) (s : S) (h : AreSized (filter_map var_in ss))
    (new : (d : Domain) → var_in s ≡ Some d → (is_var_again (filter_map var_in ss) d ≡ false) × (var_excess (sizes_of (filter_map var_in ss)) (length d.values) ≡ None)) where
  pub sized_new : AreSized (filter_map var_in (ss ++ s ∷ []))
  sized_new = by_kind (var_in s) refl
    where
      by_kind : (o : Option Domain) → var_in s ≡ o → AreSized (filter_map var_in (ss ++ s ∷ []))
      by_kind None e = subst AreSized (sym (same_declared var_in ss s e)) h
      by_kind (Some d) e = let k = new d e in subst AreSized (sym (declared_push var_in ss s (Some d) e)) (sized_push (filter_map var_in ss) d h k.0 k.1)
