-- The laws of a quasi-Boolean algebra, from those of its order. What is proved of the meet holds of the join in the
-- algebra turned upside down.
use Rattle.std.proofs.Common.{◌≡◌, ℕ, ◌<◌, true, List, [], ◌∷◌, refl, ap, subst, ◌∙◌}
use Rattle.std.proofs.lemmas.Bool.{and_parts, and_from}
use Rattle.xc_alg.specs.Operations.{Operations, IsAlgebra}
use Rattle.xc_alg.specs.Bounds.{AreElements, is_below_all, IsMeetOf, IsJoinOf, met, joined}

-- from an order of the meet
module _ (o : Operations) (laws : IsAlgebra o) where
  meet_through_left : (a b c : ℕ) → a < o.size → b < o.size → c < o.size → o.below a c ≡ true → o.below (o.meet a b) c ≡ true
  meet_through_left a b c ha hb hc h = laws.transitive (o.meet a b) a c (laws.meet_in_range a b ha hb) ha hc (laws.meet_below_left a b ha hb) h

  meet_through_right : (a b c : ℕ) → a < o.size → b < o.size → c < o.size → o.below b c ≡ true → o.below (o.meet a b) c ≡ true
  meet_through_right a b c ha hb hc h = laws.transitive (o.meet a b) b c (laws.meet_in_range a b ha hb) hb hc (laws.meet_below_right a b ha hb) h

  meet_swapped : (a b : ℕ) → a < o.size → b < o.size → o.below (o.meet a b) (o.meet b a) ≡ true
  meet_swapped a b ha hb = laws.meet_greatest b a (o.meet a b) hb ha (laws.meet_in_range a b ha hb) (laws.meet_below_right a b ha hb) (laws.meet_below_left a b ha hb)

  pub meet_commutes : (a b : ℕ) → a < o.size → b < o.size → o.meet a b ≡ o.meet b a
  meet_commutes a b ha hb =
      laws.antisymmetric (o.meet a b) (o.meet b a) (laws.meet_in_range a b ha hb) (laws.meet_in_range b a hb ha) (meet_swapped a b ha hb) (meet_swapped b a hb ha)

  pub meet_of_below : (a b : ℕ) → a < o.size → b < o.size → o.below a b ≡ true → o.meet a b ≡ a
  meet_of_below a b ha hb h =
      laws.antisymmetric (o.meet a b) a (laws.meet_in_range a b ha hb) ha (laws.meet_below_left a b ha hb) (laws.meet_greatest a b a ha hb ha (laws.reflexive a ha) h)

  pub below_of_meet : (a b : ℕ) → a < o.size → b < o.size → o.meet a b ≡ a → o.below a b ≡ true
  below_of_meet a b ha hb e = subst (λ (x : ℕ). o.below x b ≡ true) e (laws.meet_below_right a b ha hb)

  pub meet_idempotent : (a : ℕ) → a < o.size → o.meet a a ≡ a
  meet_idempotent a ha = meet_of_below a a ha ha (laws.reflexive a ha)

  pub meet_associative : (a b c : ℕ) → a < o.size → b < o.size → c < o.size → o.meet (o.meet a b) c ≡ o.meet a (o.meet b c)
  meet_associative a b c ha hb hc =
      let ab = laws.meet_in_range a b ha hb in
      let bc = laws.meet_in_range b c hb hc in
      let left = laws.meet_in_range (o.meet a b) c ab hc in
      let right = laws.meet_in_range a (o.meet b c) ha bc in
      laws.antisymmetric (o.meet (o.meet a b) c) (o.meet a (o.meet b c)) left right
      (laws.meet_greatest a (o.meet b c) (o.meet (o.meet a b) c) ha bc left
      (meet_through_left (o.meet a b) c a ab hc ha (laws.meet_below_left a b ha hb))
      (laws.meet_greatest b c (o.meet (o.meet a b) c) hb hc left
      (meet_through_left (o.meet a b) c b ab hc hb (laws.meet_below_right a b ha hb)) (laws.meet_below_right (o.meet a b) c ab hc)))
      (laws.meet_greatest (o.meet a b) c (o.meet a (o.meet b c)) ab hc right
      (laws.meet_greatest a b (o.meet a (o.meet b c)) ha hb right
      (laws.meet_below_left a (o.meet b c) ha bc) (meet_through_right a (o.meet b c) b ha bc hb (laws.meet_below_left b c hb hc)))
      (meet_through_right a (o.meet b c) c ha bc hc (laws.meet_below_right b c hb hc)))

  pub meet_absorbs : (a b : ℕ) → a < o.size → b < o.size → o.meet a (o.join a b) ≡ a
  meet_absorbs a b ha hb = meet_of_below a (o.join a b) ha (laws.join_in_range a b ha hb) (laws.join_above_left a b ha hb)

  pub meet_monotone : (a b c : ℕ) → a < o.size → b < o.size → c < o.size → o.below b c ≡ true → o.below (o.meet a b) (o.meet a c) ≡ true
  meet_monotone a b c ha hb hc h =
      laws.meet_greatest a c (o.meet a b) ha hc (laws.meet_in_range a b ha hb) (laws.meet_below_left a b ha hb) (meet_through_right a b c ha hb hc h)

  pub meet_with_top : (a : ℕ) → a < o.size → o.meet a o.top ≡ a
  meet_with_top a ha = meet_of_below a o.top ha laws.top_in_range (laws.top_above a ha)

  pub meet_with_bottom : (a : ℕ) → a < o.size → o.meet a o.bottom ≡ o.bottom
  meet_with_bottom a ha =
      laws.antisymmetric (o.meet a o.bottom) o.bottom (laws.meet_in_range a o.bottom ha laws.bottom_in_range) laws.bottom_in_range
      (laws.meet_below_right a o.bottom ha laws.bottom_in_range) (laws.bottom_below (o.meet a o.bottom) (laws.meet_in_range a o.bottom ha laws.bottom_in_range))

  -- a negation that is above an element
  turned : (a b : ℕ) → a < o.size → b < o.size → o.below (o.negation a) b ≡ true → o.below (o.negation b) a ≡ true
  turned a b ha hb h =
      subst (λ (x : ℕ). o.below (o.negation b) x ≡ true) (laws.involution a ha) (laws.antitone (o.negation a) b (laws.negation_in_range a ha) hb h)

  negation_of_meet_below : (a b : ℕ) → a < o.size → b < o.size → o.below (o.negation (o.meet a b)) (o.join (o.negation a) (o.negation b)) ≡ true
  negation_of_meet_below a b ha hb =
      let na = laws.negation_in_range a ha in
      let nb = laws.negation_in_range b hb in
      let either = laws.join_in_range (o.negation a) (o.negation b) na nb in
      turned (o.join (o.negation a) (o.negation b)) (o.meet a b) either (laws.meet_in_range a b ha hb)
      (laws.meet_greatest a b (o.negation (o.join (o.negation a) (o.negation b))) ha hb (laws.negation_in_range (o.join (o.negation a) (o.negation b)) either)
      (turned a (o.join (o.negation a) (o.negation b)) ha either (laws.join_above_left (o.negation a) (o.negation b) na nb))
      (turned b (o.join (o.negation a) (o.negation b)) hb either (laws.join_above_right (o.negation a) (o.negation b) na nb)))

  pub negation_of_meet : (a b : ℕ) → a < o.size → b < o.size → o.negation (o.meet a b) ≡ o.join (o.negation a) (o.negation b)
  negation_of_meet a b ha hb =
      let na = laws.negation_in_range a ha in
      let nb = laws.negation_in_range b hb in
      let both = laws.meet_in_range a b ha hb in
      laws.antisymmetric (o.negation (o.meet a b)) (o.join (o.negation a) (o.negation b))
      (laws.negation_in_range (o.meet a b) both) (laws.join_in_range (o.negation a) (o.negation b) na nb)
      (negation_of_meet_below a b ha hb)
      (laws.join_least (o.negation a) (o.negation b) (o.negation (o.meet a b)) na nb (laws.negation_in_range (o.meet a b) both)
      (laws.antitone (o.meet a b) a both ha (laws.meet_below_left a b ha hb)) (laws.antitone (o.meet a b) b both hb (laws.meet_below_right a b ha hb)))

  pub negation_of_bottom : o.negation o.bottom ≡ o.top
  negation_of_bottom =
      let down = laws.negation_in_range o.top laws.top_in_range in
      let up = laws.negation_in_range o.bottom laws.bottom_in_range in
      laws.antisymmetric (o.negation o.bottom) o.top up laws.top_in_range
      (laws.top_above (o.negation o.bottom) up)
      (subst (λ (x : ℕ). o.below x (o.negation o.bottom) ≡ true) (laws.involution o.top laws.top_in_range)
      (laws.antitone o.bottom (o.negation o.top) laws.bottom_in_range down (laws.bottom_below (o.negation o.top) down)))

  -- the other distributive law
  join_below_meet : (a b c : ℕ) → a < o.size → b < o.size → c < o.size → o.below (o.join a (o.meet b c)) (o.meet (o.join a b) (o.join a c)) ≡ true
  join_below_meet a b c ha hb hc =
      let bc = laws.meet_in_range b c hb hc in
      let ab = laws.join_in_range a b ha hb in
      let ac = laws.join_in_range a c ha hc in
      let both = laws.meet_in_range (o.join a b) (o.join a c) ab ac in
      laws.join_least a (o.meet b c) (o.meet (o.join a b) (o.join a c)) ha bc both
      (laws.meet_greatest (o.join a b) (o.join a c) a ab ac ha (laws.join_above_left a b ha hb) (laws.join_above_left a c ha hc))
      (laws.meet_greatest (o.join a b) (o.join a c) (o.meet b c) ab ac bc
      (meet_through_left b c (o.join a b) hb hc ab (laws.join_above_right a b ha hb))
      (meet_through_right b c (o.join a c) hb hc ac (laws.join_above_right a c ha hc)))

  meet_below_join : (a b c : ℕ) → a < o.size → b < o.size → c < o.size → o.below (o.meet (o.join a b) (o.join a c)) (o.join a (o.meet b c)) ≡ true
  meet_below_join a b c ha hb hc =
      let bc = laws.meet_in_range b c hb hc in
      let ab = laws.join_in_range a b ha hb in
      let all = laws.join_in_range a (o.meet b c) ha bc in
      let a_below = laws.join_above_left a (o.meet b c) ha bc in
      let with_c = meet_commutes (o.join a b) c ab hc ∙ laws.distributive c a b hc ha hb in
      let left = laws.meet_in_range (o.join a b) a ab ha in
      let right = laws.meet_in_range (o.join a b) c ab hc in
      rw (laws.distributive (o.join a b) a c ab ha hc)
      (laws.join_least (o.meet (o.join a b) a) (o.meet (o.join a b) c) (o.join a (o.meet b c)) left right all
      (meet_through_right (o.join a b) a (o.join a (o.meet b c)) ab ha all a_below)
      (rw with_c
      (laws.join_least (o.meet c a) (o.meet c b) (o.join a (o.meet b c)) (laws.meet_in_range c a hc ha) (laws.meet_in_range c b hc hb) all
      (meet_through_right c a (o.join a (o.meet b c)) hc ha all a_below)
      (rw (meet_commutes c b hc hb) (laws.join_above_right a (o.meet b c) ha bc)))))

  pub join_distributes : (a b c : ℕ) → a < o.size → b < o.size → c < o.size → o.join a (o.meet b c) ≡ o.meet (o.join a b) (o.join a c)
  join_distributes a b c ha hb hc =
      laws.antisymmetric (o.join a (o.meet b c)) (o.meet (o.join a b) (o.join a c))
      (laws.join_in_range a (o.meet b c) ha (laws.meet_in_range b c hb hc))
      (laws.meet_in_range (o.join a b) (o.join a c) (laws.join_in_range a b ha hb) (laws.join_in_range a c ha hc))
      (join_below_meet a b c ha hb hc) (meet_below_join a b c ha hb hc)

  -- what is below an element that is below all codes is below them all
  below_all_through : (codes : List ℕ) (a b : ℕ) → AreElements o.size codes → a < o.size → b < o.size → o.below a b ≡ true → is_below_all o codes b ≡ true → is_below_all o codes a ≡ true
  below_all_through [] a b hs ha hb h below = refl
  below_all_through (code ∷ codes) a b hs ha hb h below =
      let both = and_parts (o.below b code) (is_below_all o codes b) below in
      and_from (o.below a code) (is_below_all o codes a) (laws.transitive a b code ha hb hs.0 h both.0) (below_all_through codes a b hs.1 ha hb h both.1)

  pub met_are_meets : (codes : List ℕ) → AreElements o.size codes → IsMeetOf o codes (met o codes)
  met_are_meets [] hs = record { in_range = laws.top_in_range; lower = refl; greatest = λ a ha h. laws.top_above a ha }
  met_are_meets (code ∷ codes) hs =
      let rest = met_are_meets codes hs.1 in
      let within = laws.meet_in_range code (met o codes) hs.0 rest.in_range in
      record {
        in_range = within;
        lower =
            and_from (o.below (o.meet code (met o codes)) code) (is_below_all o codes (o.meet code (met o codes))) (laws.meet_below_left code (met o codes) hs.0 rest.in_range)
            (below_all_through codes (o.meet code (met o codes)) (met o codes) hs.1 within rest.in_range (laws.meet_below_right code (met o codes) hs.0 rest.in_range) rest.lower);
        greatest = λ a ha h.
            let both = and_parts (o.below a code) (is_below_all o codes a) h in
            laws.meet_greatest code (met o codes) a hs.0 rest.in_range ha both.0 (rest.greatest a ha both.1);
      }

  pub meets_are_unique : (codes : List ℕ) (m k : ℕ) → IsMeetOf o codes m → IsMeetOf o codes k → m ≡ k
  meets_are_unique codes m k hm hk = laws.antisymmetric m k hm.in_range hk.in_range (hk.greatest m hm.in_range hm.lower) (hm.greatest k hk.in_range hk.lower)

-- the algebra upside down
abbrev pub dual : Operations → Operations
dual o = record { size = o.size; below = λ a b. o.below b a; meet = o.join; join = o.meet; negation = o.negation; bottom = o.top; top = o.bottom }

pub dual_laws : (o : Operations) → IsAlgebra o → IsAlgebra (dual o)
dual_laws o laws =
    record {
      reflexive = laws.reflexive;
      transitive = λ a b c ha hb hc h k. laws.transitive c b a hc hb ha k h;
      antisymmetric = λ a b ha hb h k. laws.antisymmetric a b ha hb k h;
      meet_in_range = laws.join_in_range;
      meet_below_left = laws.join_above_left;
      meet_below_right = laws.join_above_right;
      meet_greatest = laws.join_least;
      join_in_range = laws.meet_in_range;
      join_above_left = laws.meet_below_left;
      join_above_right = laws.meet_below_right;
      join_least = laws.meet_greatest;
      distributive = join_distributes o laws;
      negation_in_range = laws.negation_in_range;
      involution = laws.involution;
      antitone = λ a b ha hb h. laws.antitone b a hb ha h;
      bottom_in_range = laws.top_in_range;
      bottom_below = laws.top_above;
      top_in_range = laws.bottom_in_range;
      top_above = laws.bottom_below;
    }

module _ (o : Operations) (laws : IsAlgebra o) where
  pub join_commutes : (a b : ℕ) → a < o.size → b < o.size → o.join a b ≡ o.join b a
  join_commutes = meet_commutes (dual o) (dual_laws o laws)

  pub join_of_below : (a b : ℕ) → a < o.size → b < o.size → o.below a b ≡ true → o.join a b ≡ b
  join_of_below a b ha hb h = join_commutes a b ha hb ∙ meet_of_below (dual o) (dual_laws o laws) b a hb ha h

  pub below_of_join : (a b : ℕ) → a < o.size → b < o.size → o.join a b ≡ b → o.below a b ≡ true
  below_of_join a b ha hb e = below_of_meet (dual o) (dual_laws o laws) b a hb ha (join_commutes b a hb ha ∙ e)

  pub join_idempotent : (a : ℕ) → a < o.size → o.join a a ≡ a
  join_idempotent = meet_idempotent (dual o) (dual_laws o laws)

  pub join_associative : (a b c : ℕ) → a < o.size → b < o.size → c < o.size → o.join (o.join a b) c ≡ o.join a (o.join b c)
  join_associative = meet_associative (dual o) (dual_laws o laws)

  pub join_absorbs : (a b : ℕ) → a < o.size → b < o.size → o.join a (o.meet a b) ≡ a
  join_absorbs = meet_absorbs (dual o) (dual_laws o laws)

  pub join_monotone : (a b c : ℕ) → a < o.size → b < o.size → c < o.size → o.below b c ≡ true → o.below (o.join a b) (o.join a c) ≡ true
  join_monotone a b c ha hb hc h = meet_monotone (dual o) (dual_laws o laws) a c b ha hc hb h

  pub join_with_bottom : (a : ℕ) → a < o.size → o.join a o.bottom ≡ a
  join_with_bottom = meet_with_top (dual o) (dual_laws o laws)

  pub join_with_top : (a : ℕ) → a < o.size → o.join a o.top ≡ o.top
  join_with_top = meet_with_bottom (dual o) (dual_laws o laws)

  pub negation_of_join : (a b : ℕ) → a < o.size → b < o.size → o.negation (o.join a b) ≡ o.meet (o.negation a) (o.negation b)
  negation_of_join = negation_of_meet (dual o) (dual_laws o laws)

  pub negation_of_top : o.negation o.top ≡ o.bottom
  negation_of_top = negation_of_bottom (dual o) (dual_laws o laws)

  joined_in_dual : (codes : List ℕ) → met (dual o) codes ≡ joined o codes
  joined_in_dual [] = refl
  joined_in_dual (code ∷ codes) = ap (λ (x : ℕ). o.join code x) (joined_in_dual codes)

  pub joined_are_joins : (codes : List ℕ) → AreElements o.size codes → IsJoinOf o codes (joined o codes)
  joined_are_joins codes hs =
      let below = met_are_meets (dual o) (dual_laws o laws) codes hs in
      let join : IsJoinOf o codes (met (dual o) codes) = record { in_range = below.in_range; upper = below.lower; least = below.greatest } in
      subst (λ (x : ℕ). IsJoinOf o codes x) (joined_in_dual codes) join

  pub joins_are_unique : (codes : List ℕ) (m k : ℕ) → IsJoinOf o codes m → IsJoinOf o codes k → m ≡ k
  joins_are_unique codes m k hm hk = laws.antisymmetric m k hm.in_range hk.in_range (hm.least k hk.in_range hk.upper) (hk.least m hm.in_range hm.upper)

  -- the negation of an implication
  pub negation_of_implication : (a b n r : ℕ) → a < o.size → b < o.size → n ≡ o.negation a → r ≡ o.join n b → o.negation r ≡ o.meet a (o.negation b)
  negation_of_implication a b n r ha hb hn hr =
      let turned = negation_of_join (o.negation a) b (laws.negation_in_range a ha) hb in
      let back = laws.involution a ha in
      cc
