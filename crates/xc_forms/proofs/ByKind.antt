-- What is said by statements of one kind: what holds of it, where it comes from, and how loops go over it.
use Rattle.std.proofs.Common.{◌≡◌, ℕ, suc, ◌+◌, ◌<◌, Bool, true, false, ◌&&◌, if◌then◌else◌, List, [], ◌∷◌, ◌++◌, map, length, get_or, drop, drop-cons, add-one, Option, Some, None, refl, ◌∙◌, ap}
use Rattle.std.specs.List.{list_all, filter, filter_map, cons_option}
use Rattle.std.specs.Option.{is_some, option_map}
use Rattle.std.proofs.lemmas.Bool.{and_parts, and_from}
use Rattle.std.proofs.lemmas.List.Elements.{filter_map-append}
use Rattle.xc_base.specs.Names.{is_among, has_twice}
use Rattle.xc_forms.specs.ByKind.{first_of}
use Rattle.xc_forms.proofs.FaultlessLines.{same_declared, declared_push, once_push}

-- two tests that all pass
pub both_all : {X : Type 0} (p q : X → Bool) (xs : List X) → list_all p xs ≡ true → list_all q xs ≡ true → list_all (λ x. p x && q x) xs ≡ true
both_all p q [] h k = refl
both_all p q (x ∷ xs) h k =
    let first = and_parts (p x) (list_all p xs) h in
    let second = and_parts (q x) (list_all q xs) k in
    and_from (p x && q x) (list_all (λ y. p y && q y) xs) (and_from (p x) (q x) first.0 second.0) (both_all p q xs first.1 second.1)

module _ {S X : Type 0} (in_it : S → Option X) where
  -- what holds of each statement that passes a test holds of all that such statements say
  module _ (p : S → Bool) (q : X → Bool) (each : (s : S) (x : X) → in_it s ≡ Some x → p s ≡ true → q x ≡ true) where
    all_more : (s : S) (ss : List S) (o : Option X) → in_it s ≡ o → p s ≡ true → list_all q (filter_map in_it ss) ≡ true → list_all q (cons_option o (filter_map in_it ss)) ≡ true
    all_more s ss None e h k = k
    all_more s ss (Some x) e h k = and_from (q x) (list_all q (filter_map in_it ss)) (each s x e h) k

    pub all_in : (ss : List S) → list_all p ss ≡ true → list_all q (filter_map in_it ss) ≡ true
    all_in [] h = refl
    all_in (s ∷ ss) h = let parts = and_parts (p s) (list_all p ss) h in all_more s ss (in_it s) refl parts.0 (all_in ss parts.1)

    first_or : (d : X) (xs : List X) → q d ≡ true → list_all q xs ≡ true → q (get_or xs 0 d) ≡ true
    first_or d [] h k = h
    first_or d (x ∷ xs) h k = (and_parts (q x) (list_all q xs) k).0

    pub first_in : (d : X) (ss : List S) → q d ≡ true → list_all p ss ≡ true → q (first_of in_it d ss) ≡ true
    first_in d ss k h = first_or d (filter_map in_it ss) k (all_in ss h)

  -- what the first statement says, where it is of the kind
  pub first_is : (d : X) (s : S) (more : List S) → is_some (in_it s) ≡ true → first_of in_it d (s ∷ more) ≡ first_of in_it d (s ∷ [])
  first_is d s more h = by_kind (in_it s) h
    where
      by_kind : (o : Option X) → is_some o ≡ true → get_or (cons_option o (filter_map in_it more)) 0 d ≡ get_or (cons_option o []) 0 d
      by_kind None k = cc
      by_kind (Some x) k = refl

  pub first_holds : (p : S → Bool) (q : X → Bool) (d : X) → ((s : S) (x : X) → in_it s ≡ Some x → p s ≡ true → q x ≡ true) → (s : S) → is_some (in_it s) ≡ true → p s ≡ true → q (first_of in_it d (s ∷ [])) ≡ true
  first_holds p q d each s h k = by_kind (in_it s) refl h
    where
      by_kind : (o : Option X) → in_it s ≡ o → is_some o ≡ true → q (get_or (cons_option o []) 0 d) ≡ true
      by_kind None e i = cc
      by_kind (Some x) e i = each s x e k

  -- a part of what they say is what another function picks
  pub part_in : {Y : Type 0} (part : X → Y) (other : S → Option Y) → ((s : S) → option_map part (in_it s) ≡ other s) → (ss : List S) → map part (filter_map in_it ss) ≡ filter_map other ss
  part_in part other same [] = refl
  part_in part other same (s ∷ ss) = more (in_it s) ∙ rw (same s, part_in part other same ss)
    where
      more : (o : Option X) → map part (cons_option o (filter_map in_it ss)) ≡ cons_option (option_map part o) (map part (filter_map in_it ss))
      more None = refl
      more (Some x) = refl

  -- what those from a place on say, as a loop goes over what they are seen as
  module _ {R : Type 0} (seen : R → S) where
    pub kind_from : (rs : List R) (i : ℕ) (d : R) → i < length rs → filter_map in_it (map seen (drop i rs)) ≡ filter_map in_it (seen (get_or rs i d) ∷ []) ++ filter_map in_it (map seen (drop (i + 1) rs))
    kind_from rs i d h = rw (add-one, drop-cons rs i d) (filter_map-append in_it (seen (get_or rs i d) ∷ []) (map seen (drop (suc i) rs)))

    -- and how many of them there are
    pub counted : (rs : List R) → length (filter_map in_it (map seen rs)) ≡ length (filter (λ (r : R). is_some (in_it (seen r))) rs)
    counted [] = refl
    counted (r ∷ rs) = more (in_it (seen r)) (counted rs)
      where
        more : (o : Option X) → length (filter_map in_it (map seen rs)) ≡ length (filter (λ (s : R). is_some (in_it (seen s))) rs)
            → length (cons_option o (filter_map in_it (map seen rs))) ≡ length (if is_some o then r ∷ filter (λ (s : R). is_some (in_it (seen s))) rs else filter (λ (s : R). is_some (in_it (seen s))) rs)
        more None h = h
        more (Some x) h = ap suc h

  -- statements that say items of another kind say none of this one
  pub none_said : {Y : Type 0} (say : Y → S) → ((y : Y) → in_it (say y) ≡ None) → (ys : List Y) (ss : List S) → filter_map in_it (map say ys ++ ss) ≡ filter_map in_it ss
  none_said say none [] ss = refl
  none_said say none (y ∷ ys) ss = rw (none y) (none_said say none ys ss)

  -- and those that say items of this kind say these
  pub all_said : (say : X → S) (q : X → Bool) → ((x : X) → q x ≡ true → in_it (say x) ≡ Some x) → (xs : List X) (ss : List S) → list_all q xs ≡ true → filter_map in_it (map say xs ++ ss) ≡ xs ++ filter_map in_it ss
  all_said say q back [] ss h = refl
  all_said say q back (x ∷ xs) ss h =
      let parts = and_parts (q x) (list_all q xs) h in
      rw (back x parts.0) (ap (λ (more : List X). x ∷ more) (all_said say q back xs ss parts.1))

-- different names stay different with what one more statement names
pub once_named : {S : Type 0} (name_in : S → Option (List ℕ)) (ss : List S) (s : S) → has_twice (filter_map name_in ss) ≡ false
    → ((name : List ℕ) → name_in s ≡ Some name → is_among (filter_map name_in ss) name ≡ false) → has_twice (filter_map name_in (ss ++ s ∷ [])) ≡ false
once_named name_in ss s h new = by_kind (name_in s) refl
  where
    by_kind : (o : Option (List ℕ)) → name_in s ≡ o → has_twice (filter_map name_in (ss ++ s ∷ [])) ≡ false
    by_kind None e = ap has_twice (same_declared name_in ss s e) ∙ h
    by_kind (Some name) e = ap has_twice (declared_push name_in ss s (Some name) e) ∙ once_push (filter_map name_in ss) name h (new name e)
