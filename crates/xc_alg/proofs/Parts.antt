-- One part as an algebra, and its bounds of lists.
use Rattle.std.proofs.Common.{◌≡◌, ℕ, zero, suc, ◌<◌, ◌≤◌, Bool, true, ◌&&◌, List, [], ◌∷◌, Option, Some, None, unwrap_or, refl, sym, ap, subst, ◌∙◌, inl, inr, arith}
use Rattle.std.proofs.lemmas.Bool.{and_parts, and_from, cases_eq}
use Rattle.xc_theory.specs.Bounds.{IsMeet, IsJoin, first_meet, first_join, meet_of, join_of}
use Rattle.xc_theory.specs.Lattices.{LatticeData, IsLawful, size, below, meet, join, negation, bottom, top}
use Rattle.xc_theory.proofs.Bounds.{meets_are_found, joins_are_found, no_other_meets, no_other_joins, meets_are_unique, joins_are_unique}
use Rattle.xc_alg.specs.Operations.{Operations, IsAlgebra}
use Rattle.xc_alg.specs.Bounds.{AreElements, met, joined}
use Rattle.xc_alg.proofs.AlgebraLaws.{met_are_meets, joined_are_joins}

abbrev pub single : LatticeData → Operations
single l = record { size = size l; below = below l; meet = meet l; join = join l; negation = negation l; bottom = bottom l; top = top l }

-- where there is a bound, one is found
found_meet : (table : List (List Bool)) (xs : List ℕ) (m : ℕ) (o : Option ℕ) → first_meet table xs ≡ o → IsMeet table xs m → IsMeet table xs (unwrap_or o 0)
found_meet table xs m None e h = absurd (no_other_meets table xs m e h)
found_meet table xs m (Some k) e h = meets_are_found table xs k e

pub meet_of-is_meet : (table : List (List Bool)) (xs : List ℕ) (m : ℕ) → IsMeet table xs m → IsMeet table xs (meet_of table xs)
meet_of-is_meet table xs m h = found_meet table xs m (first_meet table xs) refl h

found_join : (table : List (List Bool)) (xs : List ℕ) (m : ℕ) (o : Option ℕ) → first_join table xs ≡ o → IsJoin table xs m → IsJoin table xs (unwrap_or o 0)
found_join table xs m None e h = absurd (no_other_joins table xs m e h)
found_join table xs m (Some k) e h = joins_are_found table xs k e

pub join_of-is_join : (table : List (List Bool)) (xs : List ℕ) (m : ℕ) → IsJoin table xs m → IsJoin table xs (join_of table xs)
join_of-is_join table xs m h = found_join table xs m (first_join table xs) refl h

-- both tests of a pair
both_parts : (x y : Bool) → (x && (y && true)) ≡ true → (x ≡ true) × (y ≡ true)
both_parts x y h = let outer = and_parts x (y && true) h in (outer.0, (and_parts y true outer.1).0)

both_from : (x y : Bool) → x ≡ true → y ≡ true → (x && (y && true)) ≡ true
both_from x y hx hy = and_from x (y && true) hx (and_from y true hy refl)

module _ (l : LatticeData) (lawful : IsLawful l) (several : 2 ≤ size l) where
  -- an element above the first n, and one below them
  above_first : (n : ℕ) → n ≤ size l → (u : ℕ) × (u < size l) × ((a : ℕ) → a < n → below l a u ≡ true)
  above_first zero h = (0, omega arith, λ a ha. absurd (omega arith))
  above_first (suc n) h =
      let rest = above_first n (omega arith) in
      let last : n < size l = omega arith in
      let bound = lawful.joins rest.0 n rest.1 last in
      let both = both_parts (below l rest.0 (join l rest.0 n)) (below l n (join l rest.0 n)) bound.upper in (
        join l rest.0 n,
        bound.in_range,
        λ a ha.
            elim (cases_eq a n) [
              | inl same ↦ subst (λ (x : ℕ). below l x (join l rest.0 n) ≡ true) (sym same) both.1
              | inr apart ↦ lawful.transitive a rest.0 (join l rest.0 n) (omega arith) rest.1 bound.in_range (rest.2 a (omega arith)) both.0
            ],
      )

  below_first : (n : ℕ) → n ≤ size l → (u : ℕ) × (u < size l) × ((a : ℕ) → a < n → below l u a ≡ true)
  below_first zero h = (0, omega arith, λ a ha. absurd (omega arith))
  below_first (suc n) h =
      let rest = below_first n (omega arith) in
      let last : n < size l = omega arith in
      let bound = lawful.meets rest.0 n rest.1 last in
      let both = both_parts (below l (meet l rest.0 n) rest.0) (below l (meet l rest.0 n) n) bound.lower in (
        meet l rest.0 n,
        bound.in_range,
        λ a ha.
            elim (cases_eq a n) [
              | inl same ↦ subst (λ (x : ℕ). below l (meet l rest.0 n) x ≡ true) (sym same) both.1
              | inr apart ↦ lawful.transitive (meet l rest.0 n) rest.0 a bound.in_range rest.1 (omega arith) both.0 (rest.2 a (omega arith))
            ],
      )

  top_is_meet : IsMeet l.order [] (top l)
  top_is_meet =
      let all = above_first (size l) (omega arith) in
      meet_of-is_meet l.order [] all.0 (record { in_range = all.1; lower = refl; greatest = λ a ha h. all.2 a ha })

  bottom_is_join : IsJoin l.order [] (bottom l)
  bottom_is_join =
      let all = below_first (size l) (omega arith) in
      join_of-is_join l.order [] all.0 (record { in_range = all.1; upper = refl; least = λ a ha h. all.2 a ha })

  pub single_laws : IsAlgebra (single l)
  single_laws =
      record {
        reflexive = lawful.reflexive;
        transitive = lawful.transitive;
        antisymmetric = lawful.antisymmetric;
        meet_in_range = λ a b ha hb. (lawful.meets a b ha hb).in_range;
        meet_below_left = λ a b ha hb. (both_parts (below l (meet l a b) a) (below l (meet l a b) b) (lawful.meets a b ha hb).lower).0;
        meet_below_right = λ a b ha hb. (both_parts (below l (meet l a b) a) (below l (meet l a b) b) (lawful.meets a b ha hb).lower).1;
        meet_greatest = λ a b c ha hb hc h k. (lawful.meets a b ha hb).greatest c hc (both_from (below l c a) (below l c b) h k);
        join_in_range = λ a b ha hb. (lawful.joins a b ha hb).in_range;
        join_above_left = λ a b ha hb. (both_parts (below l a (join l a b)) (below l b (join l a b)) (lawful.joins a b ha hb).upper).0;
        join_above_right = λ a b ha hb. (both_parts (below l a (join l a b)) (below l b (join l a b)) (lawful.joins a b ha hb).upper).1;
        join_least = λ a b c ha hb hc h k. (lawful.joins a b ha hb).least c hc (both_from (below l a c) (below l b c) h k);
        distributive = lawful.distributive;
        negation_in_range = lawful.shape.in_range;
        involution = lawful.involution;
        antitone = lawful.antitone;
        bottom_in_range = bottom_is_join.in_range;
        bottom_below = λ a ha. bottom_is_join.least a ha refl;
        top_in_range = top_is_meet.in_range;
        top_above = λ a ha. top_is_meet.greatest a ha refl;
      }

  -- the bound of a list in the part is what its elements meet to, or join to, one after the other
  pub meet_of-met : (xs : List ℕ) → AreElements (size l) xs → meet_of l.order xs ≡ met (single l) xs
  meet_of-met xs hs =
      let bound = met_are_meets (single l) single_laws xs hs in
      let meets : IsMeet l.order xs (met (single l) xs) = record { in_range = bound.in_range; lower = bound.lower; greatest = bound.greatest } in
      meets_are_unique l.order xs (meet_of l.order xs) (met (single l) xs) lawful.antisymmetric (meet_of-is_meet l.order xs (met (single l) xs) meets) meets

  pub join_of-joined : (xs : List ℕ) → AreElements (size l) xs → join_of l.order xs ≡ joined (single l) xs
  join_of-joined xs hs =
      let bound = joined_are_joins (single l) single_laws xs hs in
      let joins : IsJoin l.order xs (joined (single l) xs) = record { in_range = bound.in_range; upper = bound.upper; least = bound.least } in
      joins_are_unique l.order xs (join_of l.order xs) (joined (single l) xs) lawful.antisymmetric (join_of-is_join l.order xs (joined (single l) xs) joins) joins

  pub meet_of_more : (x : ℕ) (xs : List ℕ) → x < size l → AreElements (size l) xs → meet_of l.order (x ∷ xs) ≡ meet_of l.order (x ∷ meet_of l.order xs ∷ [])
  meet_of_more x xs hx hs = meet_of-met (x ∷ xs) (hx, hs) ∙ ap (λ (m : ℕ). meet l x m) (sym (meet_of-met xs hs))

  pub join_of_more : (x : ℕ) (xs : List ℕ) → x < size l → AreElements (size l) xs → join_of l.order (x ∷ xs) ≡ join_of l.order (x ∷ join_of l.order xs ∷ [])
  join_of_more x xs hx hs = join_of-joined (x ∷ xs) (hx, hs) ∙ ap (λ (m : ℕ). join l x m) (sym (join_of-joined xs hs))
