-- Tables that are written out: a test that computes, and that they are the tables of a lattice where it passes.
use Rattle.std.proofs.Common.{◌≡◌, ℕ, ◌<◌, ◌≤◌, Bool, true, ◌||◌, not, eqb, ltb, List, [], ◌∷◌, length, get_or, map, refl, sym, ap, ◌∙◌, arith}
use Rattle.std.specs.List.{list_all, range_with_len}
use Rattle.std.proofs.lemmas.Bool.{eqb-true, ltb-true}
use Rattle.std.proofs.lemmas.List.FromFn.{length-map-range_with_len, get_or-map-range_with_len}
use Rattle.xc_theory.specs.Orders.{IsAntisymmetric}
use Rattle.xc_theory.specs.Bounds.{IsMeet, IsJoin, is_meet, is_join}
use Rattle.xc_theory.specs.Lattices.{LatticeData, IsLawful, IsWellShaped, size, below, meet, join, negation}
use Rattle.xc_theory.proofs.Ranges.{all_range_at}
use Rattle.xc_theory.proofs.Bounds.{IsMeet-from_test, IsJoin-from_test, meets_are_unique, joins_are_unique}
use Rattle.xc_alg.specs.Tables.{AreTablesOf, entry, lattice_in}
use Rattle.xc_alg.proofs.Parts.{meet_of-is_meet, join_of-is_join}

-- each number below n passes, and each pair, and each triple
abbrev one : ℕ → (ℕ → Bool) → Bool
one n p = list_all p (range_with_len 0 n)

abbrev two : ℕ → (ℕ → ℕ → Bool) → Bool
two n p = one n (λ a. one n (λ b. p a b))

abbrev three : ℕ → (ℕ → ℕ → ℕ → Bool) → Bool
three n p = one n (λ a. two n (λ b c. p a b c))

one-at : (n : ℕ) (p : ℕ → Bool) (a : ℕ) → one n p ≡ true → a < n → p a ≡ true
one-at n p a h ha = all_range_at p 0 n a h (omega arith) (omega arith)

two-at : (n : ℕ) (p : ℕ → ℕ → Bool) (a b : ℕ) → two n p ≡ true → a < n → b < n → p a b ≡ true
two-at n p a b h ha hb = one-at n (λ x. p a x) b (one-at n (λ x. one n (λ y. p x y)) a h ha) hb

three-at : (n : ℕ) (p : ℕ → ℕ → ℕ → Bool) (a b c : ℕ) → three n p ≡ true → a < n → b < n → c < n → p a b c ≡ true
three-at n p a b c h ha hb hc = two-at n (λ x y. p a x y) b c (one-at n (λ x. two n (λ y z. p x y z)) a h ha) hb hc

implied : (x y : Bool) → (not x || y) ≡ true → x ≡ true → y ≡ true
implied x y h e = grind arith

both_implied : (x y z : Bool) → (not x || (not y || z)) ≡ true → x ≡ true → y ≡ true → z ≡ true
both_implied x y z h e f = implied y z (implied x (not y || z) h e) f

-- the laws of a lattice, as tests of the tables' entries
pub record Tests (n : ℕ) (meets joins : List (List ℕ)) (negations : List ℕ) : Type 0 where
  pub several : 2 ≤ n
  pub reflexive : one n (λ a. below (lattice_in n meets negations) a a) ≡ true
  pub transitive : three n (λ a b c. not (below (lattice_in n meets negations) a b) || (not (below (lattice_in n meets negations) b c) || below (lattice_in n meets negations) a c)) ≡ true
  pub antisymmetric : two n (λ a b. not (below (lattice_in n meets negations) a b) || (not (below (lattice_in n meets negations) b a) || eqb a b)) ≡ true
  pub meet_range : two n (λ a b. ltb (entry meets a b) n) ≡ true
  pub meet_bounds : two n (λ a b. is_meet (lattice_in n meets negations).order (a ∷ b ∷ []) (entry meets a b)) ≡ true
  pub join_range : two n (λ a b. ltb (entry joins a b) n) ≡ true
  pub join_bounds : two n (λ a b. is_join (lattice_in n meets negations).order (a ∷ b ∷ []) (entry joins a b)) ≡ true
  pub distributive : three n (λ a b c. eqb (entry meets a (entry joins b c)) (entry joins (entry meets a b) (entry meets a c))) ≡ true
  pub negation_range : one n (λ a. ltb (get_or negations a 0) n) ≡ true
  pub involution : one n (λ a. eqb (get_or negations (get_or negations a 0) 0) a) ≡ true
  pub antitone : two n (λ a b. not (below (lattice_in n meets negations) a b) || below (lattice_in n meets negations) (get_or negations b 0) (get_or negations a 0)) ≡ true

-- the shape of the lattice that tables tell
size_in : (n : ℕ) (meets : List (List ℕ)) (negations : List ℕ) → size (lattice_in n meets negations) ≡ n
unfolding lattice_in
size_in n meets negations = length-map-range_with_len (λ a. map (λ b. eqb (entry meets a b) a) (range_with_len 0 n)) 0 n

columns_in : (n : ℕ) (meets : List (List ℕ)) (negations : List ℕ) (a : ℕ) → a < n → length (get_or (lattice_in n meets negations).order a []) ≡ n
unfolding lattice_in
columns_in n meets negations a ha =
    ap (λ (row : List Bool). length row) (get_or-map-range_with_len (λ a. map (λ b. eqb (entry meets a b) a) (range_with_len 0 n)) 0 n a a [] ha (omega arith))
    ∙ length-map-range_with_len (λ b. eqb (entry meets a b) a) 0 n

negations_in : (n : ℕ) (meets : List (List ℕ)) (negations : List ℕ) → length (lattice_in n meets negations).negations ≡ n
unfolding lattice_in
negations_in n meets negations = length-map-range_with_len (λ a. get_or negations a 0) 0 n

negation_in : (n : ℕ) (meets : List (List ℕ)) (negations : List ℕ) (a : ℕ) → a < n → negation (lattice_in n meets negations) a ≡ get_or negations a 0
unfolding lattice_in
negation_in n meets negations a ha = get_or-map-range_with_len (λ a. get_or negations a 0) 0 n a a 0 ha (omega arith)

module _ (n : ℕ) (meets joins : List (List ℕ)) (negations : List ℕ) (h : Tests n meets joins negations) where
  antisymmetric : (a b : ℕ) → a < n → b < n → below (lattice_in n meets negations) a b ≡ true → below (lattice_in n meets negations) b a ≡ true → a ≡ b
  antisymmetric a b ha hb x y =
      eqb-true a b
      (both_implied (below (lattice_in n meets negations) a b) (below (lattice_in n meets negations) b a) (eqb a b)
      (two-at n (λ a b. not (below (lattice_in n meets negations) a b) || (not (below (lattice_in n meets negations) b a) || eqb a b)) a b h.antisymmetric ha hb) x y)

  meet_lt : (a b : ℕ) → a < n → b < n → entry meets a b < n
  meet_lt a b ha hb = ltb-true (entry meets a b) n (two-at n (λ a b. ltb (entry meets a b) n) a b h.meet_range ha hb)

  join_lt : (a b : ℕ) → a < n → b < n → entry joins a b < n
  join_lt a b ha hb = ltb-true (entry joins a b) n (two-at n (λ a b. ltb (entry joins a b) n) a b h.join_range ha hb)

  negation_lt : (a : ℕ) → a < n → get_or negations a 0 < n
  negation_lt a ha = ltb-true (get_or negations a 0) n (one-at n (λ a. ltb (get_or negations a 0) n) a h.negation_range ha)

  entry_meets : (a b : ℕ) → a < n → b < n → IsMeet (lattice_in n meets negations).order (a ∷ b ∷ []) (entry meets a b)
  entry_meets a b ha hb =
      IsMeet-from_test (lattice_in n meets negations).order (a ∷ b ∷ []) (entry meets a b) (omega (arith, meet_lt a b ha hb, size_in n meets negations))
      (two-at n (λ a b. is_meet (lattice_in n meets negations).order (a ∷ b ∷ []) (entry meets a b)) a b h.meet_bounds ha hb)

  entry_joins : (a b : ℕ) → a < n → b < n → IsJoin (lattice_in n meets negations).order (a ∷ b ∷ []) (entry joins a b)
  entry_joins a b ha hb =
      IsJoin-from_test (lattice_in n meets negations).order (a ∷ b ∷ []) (entry joins a b) (omega (arith, join_lt a b ha hb, size_in n meets negations))
      (two-at n (λ a b. is_join (lattice_in n meets negations).order (a ∷ b ∷ []) (entry joins a b)) a b h.join_bounds ha hb)

  anti : IsAntisymmetric (lattice_in n meets negations).order
  anti a b ha hb = antisymmetric a b (omega (arith, size_in n meets negations)) (omega (arith, size_in n meets negations))

  meet_is : (a b : ℕ) → a < n → b < n → entry meets a b ≡ meet (lattice_in n meets negations) a b
  meet_is a b ha hb =
      meets_are_unique (lattice_in n meets negations).order (a ∷ b ∷ []) (entry meets a b) (meet (lattice_in n meets negations) a b) anti (entry_meets a b ha hb)
      (meet_of-is_meet (lattice_in n meets negations).order (a ∷ b ∷ []) (entry meets a b) (entry_meets a b ha hb))

  join_is : (a b : ℕ) → a < n → b < n → entry joins a b ≡ join (lattice_in n meets negations) a b
  join_is a b ha hb =
      joins_are_unique (lattice_in n meets negations).order (a ∷ b ∷ []) (entry joins a b) (join (lattice_in n meets negations) a b) anti (entry_joins a b ha hb)
      (join_of-is_join (lattice_in n meets negations).order (a ∷ b ∷ []) (entry joins a b) (entry_joins a b ha hb))

  distributes : (a b c : ℕ) → a < n → b < n → c < n
      → meet (lattice_in n meets negations) a (join (lattice_in n meets negations) b c) ≡ join (lattice_in n meets negations) (meet (lattice_in n meets negations) a b) (meet (lattice_in n meets negations) a c)
  distributes a b c ha hb hc =
      let joined = join_is b c hb hc in
      let left = meet_is a b ha hb in
      let right = meet_is a c ha hc in
      rw (sym joined, sym left, sym right, sym (meet_is a (entry joins b c) ha (join_lt b c hb hc)), sym (join_is (entry meets a b) (entry meets a c) (meet_lt a b ha hb) (meet_lt a c ha hc)))
      (eqb-true (entry meets a (entry joins b c)) (entry joins (entry meets a b) (entry meets a c))
      (three-at n (λ a b c. eqb (entry meets a (entry joins b c)) (entry joins (entry meets a b) (entry meets a c))) a b c h.distributive ha hb hc))

  involutes : (a : ℕ) → a < n → negation (lattice_in n meets negations) (negation (lattice_in n meets negations) a) ≡ a
  involutes a ha =
      rw (negation_in n meets negations a ha, negation_in n meets negations (get_or negations a 0) (negation_lt a ha))
      (eqb-true (get_or negations (get_or negations a 0) 0) a (one-at n (λ a. eqb (get_or negations (get_or negations a 0) 0) a) a h.involution ha))

  turns : (a b : ℕ) → a < n → b < n → below (lattice_in n meets negations) a b ≡ true
      → below (lattice_in n meets negations) (negation (lattice_in n meets negations) b) (negation (lattice_in n meets negations) a) ≡ true
  turns a b ha hb x =
      rw (negation_in n meets negations a ha, negation_in n meets negations b hb)
      (implied (below (lattice_in n meets negations) a b) (below (lattice_in n meets negations) (get_or negations b 0) (get_or negations a 0))
      (two-at n (λ a b. not (below (lattice_in n meets negations) a b) || below (lattice_in n meets negations) (get_or negations b 0) (get_or negations a 0)) a b h.antitone ha hb) x)

  shaped : IsWellShaped (lattice_in n meets negations)
  shaped =
      let sized = size_in n meets negations in
      record {
        square = record { rows = refl; columns = λ a ha. columns_in n meets negations a (omega arith) ∙ sym sized };
        negations = negations_in n meets negations ∙ sym sized;
        in_range = λ a ha. let ha' : a < n = omega arith in rw (negation_in n meets negations a ha') (omega (arith, negation_lt a ha'));
      }

  lawful : IsLawful (lattice_in n meets negations)
  lawful =
      let sized = size_in n meets negations in
      record {
        shape = shaped;
        reflexive = λ a ha. one-at n (λ a. below (lattice_in n meets negations) a a) a h.reflexive (omega arith);
        transitive = λ a b c ha hb hc x y.
            both_implied (below (lattice_in n meets negations) a b) (below (lattice_in n meets negations) b c) (below (lattice_in n meets negations) a c)
            (three-at n (λ a b c. not (below (lattice_in n meets negations) a b) || (not (below (lattice_in n meets negations) b c) || below (lattice_in n meets negations) a c))
            a b c h.transitive (omega arith) (omega arith) (omega arith)) x y;
        antisymmetric = anti;
        meets = λ a b ha hb.
            meet_of-is_meet (lattice_in n meets negations).order (a ∷ b ∷ []) (entry meets a b) (entry_meets a b (omega arith) (omega arith));
        joins = λ a b ha hb.
            join_of-is_join (lattice_in n meets negations).order (a ∷ b ∷ []) (entry joins a b) (entry_joins a b (omega arith) (omega arith));
        distributive = λ a b c ha hb hc. distributes a b c (omega arith) (omega arith) (omega arith);
        involution = λ a ha. involutes a (omega arith);
        antitone = λ a b ha hb. turns a b (omega arith) (omega arith);
      }

  -- tables that pass are those of a lattice
  pub tables_from_tests : (l : LatticeData) × AreTablesOf l n meets joins negations
  tables_from_tests = (
    lattice_in n meets negations,
    record {
      lawful = lawful;
      sized = size_in n meets negations;
      several = omega (arith, size_in n meets negations, h.several);
      meets = meet_is;
      joins = join_is;
      negations = λ a ha. sym (negation_in n meets negations a ha);
    },
  )
