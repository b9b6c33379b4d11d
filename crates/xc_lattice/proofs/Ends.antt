-- A lawful algebra has an element below all and one above all.
use Rattle.std.proofs.Common.{◌≡◌, ℕ, zero, suc, ◌<◌, ◌≤◌, true, [], ◌∷◌, Option, Some, None, unwrap_or, ◌⊎◌, inl, inr, refl, sym, subst, arith}
use Rattle.std.specs.List.{list_all}
use Rattle.std.proofs.lemmas.Bool.{and_parts, cases_lt}
use Rattle.xc_theory.specs.Bounds.{IsMeet, IsJoin, first_meet, first_join}
use Rattle.xc_theory.specs.Lattices.{LatticeData, IsLawful, size, below, meet, join, top, bottom}
use Rattle.xc_theory.proofs.Bounds.{meets_are_found, joins_are_found, no_other_meets, no_other_joins}

-- an element below the first k
pub record Least (l : LatticeData) (k : ℕ) : Type 0 where
  pub element : ℕ
  pub in_range : element < size l
  pub least : (a : ℕ) → a < k → below l element a ≡ true

pub record Greatest (l : LatticeData) (k : ℕ) : Type 0 where
  pub element : ℕ
  pub in_range : element < size l
  pub greatest : (a : ℕ) → a < k → below l a element ≡ true

same_or_below : (a k : ℕ) → a < suc k → (a ≡ k) ⊎ (a < k)
same_or_below a k h = elim (cases_lt a k) as (λ _. (a ≡ k) ⊎ (a < k)) [ inl low ↦ inr low | inr high ↦ inl (omega arith) ]

module _ (l : LatticeData) (lawful : IsLawful l) where
  lower : (a b : ℕ) → a < size l → b < size l → (below l (meet l a b) a ≡ true) × (below l (meet l a b) b ≡ true)
  lower a b a_in b_in =
      let m = lawful.meets a b a_in b_in in
      let parts = and_parts (below l (meet l a b) a) (list_all (λ x. below l (meet l a b) x) (b ∷ [])) m.lower in
      (parts.0, (and_parts (below l (meet l a b) b) true parts.1).0)

  upper : (a b : ℕ) → a < size l → b < size l → (below l a (join l a b) ≡ true) × (below l b (join l a b) ≡ true)
  upper a b a_in b_in =
      let m = lawful.joins a b a_in b_in in
      let parts = and_parts (below l a (join l a b)) (list_all (λ x. below l x (join l a b)) (b ∷ [])) m.upper in
      (parts.0, (and_parts (below l b (join l a b)) true parts.1).0)

  least_below : (k : ℕ) → 0 < size l → k ≤ size l → Least l k
  least_below zero some h = record { element = 0; in_range = some; least = λ a low. absurd (omega arith) }
  least_below (suc k) some h =
      let before = least_below k some (omega arith) in
      let both = lower before.element k before.in_range (omega arith) in
      let within = (lawful.meets before.element k before.in_range (omega arith)).in_range in
      record {
        element = meet l before.element k;
        in_range = within;
        least = λ a low. elim (same_or_below a k low) [
          | inl e ↦ subst (λ (x : ℕ). below l (meet l before.element k) x ≡ true) (sym e) both.1
          | inr lower_one ↦ lawful.transitive (meet l before.element k) before.element a within before.in_range (omega arith) both.0 (before.least a lower_one)
        ];
      }

  greatest_below : (k : ℕ) → 0 < size l → k ≤ size l → Greatest l k
  greatest_below zero some h = record { element = 0; in_range = some; greatest = λ a low. absurd (omega arith) }
  greatest_below (suc k) some h =
      let before = greatest_below k some (omega arith) in
      let both = upper before.element k before.in_range (omega arith) in
      let within = (lawful.joins before.element k before.in_range (omega arith)).in_range in
      record {
        element = join l before.element k;
        in_range = within;
        greatest = λ a low. elim (same_or_below a k low) [
          | inl e ↦ subst (λ (x : ℕ). below l x (join l before.element k) ≡ true) (sym e) both.1
          | inr lower_one ↦ lawful.transitive a before.element (join l before.element k) (omega arith) before.in_range within (before.greatest a lower_one) both.0
        ];
      }

  join_found : (o : Option ℕ) → first_join l.order [] ≡ o → 0 < size l → IsJoin l.order [] (unwrap_or o 0)
  join_found (Some m) e some = joins_are_found l.order [] m e
  join_found None e some =
      let least = least_below (size l) some (omega arith) in
      absurd (no_other_joins l.order [] least.element e
      (record { in_range = least.in_range; upper = refl; least = λ u within is_upper. least.least u within }))

  meet_found : (o : Option ℕ) → first_meet l.order [] ≡ o → 0 < size l → IsMeet l.order [] (unwrap_or o 0)
  meet_found (Some m) e some = meets_are_found l.order [] m e
  meet_found None e some =
      let greatest = greatest_below (size l) some (omega arith) in
      absurd (no_other_meets l.order [] greatest.element e
      (record { in_range = greatest.in_range; lower = refl; greatest = λ u within is_lower. greatest.greatest u within }))

  pub bottom_is_least : 0 < size l → IsJoin l.order [] (bottom l)
  bottom_is_least some = join_found (first_join l.order []) refl some

  pub top_is_greatest : 0 < size l → IsMeet l.order [] (top l)
  top_is_greatest some = meet_found (first_meet l.order []) refl some
