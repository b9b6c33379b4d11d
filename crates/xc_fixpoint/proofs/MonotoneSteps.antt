-- Steps that are made of monotone steps by the operations are monotone.
use Rattle.std.proofs.Common.{◌≡◌, ℕ, zero, suc, ◌+◌, ◌<◌, ◌≤◌, true, map, arith}
use Rattle.std.specs.List.{range_with_len}
use Rattle.xc_alg.specs.Operations.{Operations, IsAlgebra}
use Rattle.xc_alg.specs.Bounds.{met, joined}
use Rattle.xc_alg.proofs.AlgebraLaws.{met_are_meets, joined_are_joins}
use Rattle.xc_fixpoint.specs.Functions.{IsFunction}
use Rattle.xc_fixpoint.specs.Steps.{Step, IsMonotone}
use Rattle.xc_fixpoint.proofs.Lists.{elements_from}

module _ (o : Operations) (laws : IsAlgebra o) where
  meet_larger : (a b c d : ℕ) → a < o.size → b < o.size → c < o.size → d < o.size → o.below a c ≡ true → o.below b d ≡ true → o.below (o.meet a b) (o.meet c d) ≡ true
  meet_larger a b c d ha hb hc hd h k =
      let within = laws.meet_in_range a b ha hb in
      laws.meet_greatest c d (o.meet a b) hc hd within
      (laws.transitive (o.meet a b) a c within ha hc (laws.meet_below_left a b ha hb) h)
      (laws.transitive (o.meet a b) b d within hb hd (laws.meet_below_right a b ha hb) k)

  join_larger : (a b c d : ℕ) → a < o.size → b < o.size → c < o.size → d < o.size → o.below a c ≡ true → o.below b d ≡ true → o.below (o.join a b) (o.join c d) ≡ true
  join_larger a b c d ha hb hc hd h k =
      let within = laws.join_in_range c d hc hd in
      laws.join_least a b (o.join c d) ha hb within
      (laws.transitive a c (o.join c d) ha hc within h (laws.join_above_left c d hc hd))
      (laws.transitive b d (o.join c d) hb hd within k (laws.join_above_right c d hc hd))

  -- the bounds of larger elements
  met_larger : (a m : ℕ) (f g : ℕ → ℕ) → ((t : ℕ) → a ≤ t → t < a + m → f t < o.size) → ((t : ℕ) → a ≤ t → t < a + m → g t < o.size)
      → ((t : ℕ) → a ≤ t → t < a + m → o.below (f t) (g t) ≡ true) → o.below (met o (map f (range_with_len a m))) (met o (map g (range_with_len a m))) ≡ true
  met_larger a zero f g hf hg h = laws.reflexive o.top laws.top_in_range
  met_larger a (suc m) f g hf hg h =
      let first = λ (t : ℕ) (low : a + 1 ≤ t) (high : t < a + 1 + m). hf t (omega arith) (omega arith) in
      let second = λ (t : ℕ) (low : a + 1 ≤ t) (high : t < a + 1 + m). hg t (omega arith) (omega arith) in
      meet_larger (f a) (met o (map f (range_with_len (a + 1) m))) (g a) (met o (map g (range_with_len (a + 1) m))) (hf a (omega arith) (omega arith))
      (met_are_meets o laws (map f (range_with_len (a + 1) m)) (elements_from o.size (a + 1) m f first)).in_range (hg a (omega arith) (omega arith))
      (met_are_meets o laws (map g (range_with_len (a + 1) m)) (elements_from o.size (a + 1) m g second)).in_range (h a (omega arith) (omega arith))
      (met_larger (a + 1) m f g first second (λ t low high. h t (omega arith) (omega arith)))

  joined_larger : (a m : ℕ) (f g : ℕ → ℕ) → ((t : ℕ) → a ≤ t → t < a + m → f t < o.size) → ((t : ℕ) → a ≤ t → t < a + m → g t < o.size)
      → ((t : ℕ) → a ≤ t → t < a + m → o.below (f t) (g t) ≡ true) → o.below (joined o (map f (range_with_len a m))) (joined o (map g (range_with_len a m))) ≡ true
  joined_larger a zero f g hf hg h = laws.reflexive o.bottom laws.bottom_in_range
  joined_larger a (suc m) f g hf hg h =
      let first = λ (t : ℕ) (low : a + 1 ≤ t) (high : t < a + 1 + m). hf t (omega arith) (omega arith) in
      let second = λ (t : ℕ) (low : a + 1 ≤ t) (high : t < a + 1 + m). hg t (omega arith) (omega arith) in
      join_larger (f a) (joined o (map f (range_with_len (a + 1) m))) (g a) (joined o (map g (range_with_len (a + 1) m))) (hf a (omega arith) (omega arith))
      (joined_are_joins o laws (map f (range_with_len (a + 1) m)) (elements_from o.size (a + 1) m f first)).in_range (hg a (omega arith) (omega arith))
      (joined_are_joins o laws (map g (range_with_len (a + 1) m)) (elements_from o.size (a + 1) m g second)).in_range (h a (omega arith) (omega arith))
      (joined_larger (a + 1) m f g first second (λ t low high. h t (omega arith) (omega arith)))

  module _ (n : ℕ) where
    -- whatever the function, one and the same
    pub monotone_constant : (f : ℕ → ℕ) → IsFunction o n f → IsMonotone o n (λ z. f)
    monotone_constant f within = record { in_range = λ z hz. within; larger = λ z y hz hy h s low. laws.reflexive (f s) (within s low) }

    -- the function itself, and its value at one state
    pub monotone_itself : IsMonotone o n (λ z. z)
    monotone_itself = record { in_range = λ z hz. hz; larger = λ z y hz hy h. h }

    pub monotone_value : (t : ℕ) → t < n → IsMonotone o n (λ z s. z t)
    monotone_value t here = record { in_range = λ z hz s low. hz t here; larger = λ z y hz hy h s low. h t here }

    -- one after the other
    pub monotone_composed : (first second : Step) → IsMonotone o n first → IsMonotone o n second → IsMonotone o n (λ z. second (first z))
    monotone_composed first second a b =
        record { in_range = λ z hz. b.in_range (first z) (a.in_range z hz); larger = λ z y hz hy h. b.larger (first z) (first y) (a.in_range z hz) (a.in_range y hy) (a.larger z y hz hy h) }

    -- the meet, and the join, at each state
    pub monotone_meet : (left right : Step) → IsMonotone o n left → IsMonotone o n right → IsMonotone o n (λ z s. o.meet (left z s) (right z s))
    monotone_meet left right a b =
        record {
          in_range = λ z hz s low. laws.meet_in_range (left z s) (right z s) (a.in_range z hz s low) (b.in_range z hz s low);
          larger = λ z y hz hy h s low.
              meet_larger (left z s) (right z s) (left y s) (right y s) (a.in_range z hz s low) (b.in_range z hz s low) (a.in_range y hy s low) (b.in_range y hy s low)
              (a.larger z y hz hy h s low) (b.larger z y hz hy h s low);
        }

    pub monotone_join : (left right : Step) → IsMonotone o n left → IsMonotone o n right → IsMonotone o n (λ z s. o.join (left z s) (right z s))
    monotone_join left right a b =
        record {
          in_range = λ z hz s low. laws.join_in_range (left z s) (right z s) (a.in_range z hz s low) (b.in_range z hz s low);
          larger = λ z y hz hy h s low.
              join_larger (left z s) (right z s) (left y s) (right y s) (a.in_range z hz s low) (b.in_range z hz s low) (a.in_range y hy s low) (b.in_range y hy s low)
              (a.larger z y hz hy h s low) (b.larger z y hz hy h s low);
        }

    -- those of m steps
    pub monotone_met : (m : ℕ) (each : ℕ → Step) → ((t : ℕ) → t < m → IsMonotone o n (each t)) → IsMonotone o n (λ z s. met o (map (λ t. each t z s) (range_with_len 0 m)))
    monotone_met m each a =
        record {
          in_range = λ z hz s low.
              (met_are_meets o laws (map (λ t. each t z s) (range_with_len 0 m)) (elements_from o.size 0 m (λ t. each t z s) (λ t up here. (a t (omega arith)).in_range z hz s low))).in_range;
          larger = λ z y hz hy h s low.
              met_larger 0 m (λ t. each t z s) (λ t. each t y s) (λ t up here. (a t (omega arith)).in_range z hz s low) (λ t up here. (a t (omega arith)).in_range y hy s low)
              (λ t up here. (a t (omega arith)).larger z y hz hy h s low);
        }

    pub monotone_joined : (m : ℕ) (each : ℕ → Step) → ((t : ℕ) → t < m → IsMonotone o n (each t)) → IsMonotone o n (λ z s. joined o (map (λ t. each t z s) (range_with_len 0 m)))
    monotone_joined m each a =
        record {
          in_range = λ z hz s low.
              (joined_are_joins o laws (map (λ t. each t z s) (range_with_len 0 m)) (elements_from o.size 0 m (λ t. each t z s) (λ t up here. (a t (omega arith)).in_range z hz s low))).in_range;
          larger = λ z y hz hy h s low.
              joined_larger 0 m (λ t. each t z s) (λ t. each t y s) (λ t up here. (a t (omega arith)).in_range z hz s low) (λ t up here. (a t (omega arith)).in_range y hy s low)
              (λ t up here. (a t (omega arith)).larger z y hz hy h s low);
        }

    -- what a step makes of the negated function, negated
    pub monotone_dual : (step : Step) → IsMonotone o n step → IsMonotone o n (λ z s. o.negation (step (λ t. o.negation (z t)) s))
    monotone_dual step a =
        record {
          in_range = λ z hz s low. laws.negation_in_range (step (λ t. o.negation (z t)) s) (a.in_range (λ t. o.negation (z t)) (λ t here. laws.negation_in_range (z t) (hz t here)) s low);
          larger = λ z y hz hy h s low.
              let nz : IsFunction o n (λ t. o.negation (z t)) = λ t here. laws.negation_in_range (z t) (hz t here) in
              let ny : IsFunction o n (λ t. o.negation (y t)) = λ t here. laws.negation_in_range (y t) (hy t here) in
              laws.antitone (step (λ t. o.negation (y t)) s) (step (λ t. o.negation (z t)) s) (a.in_range (λ t. o.negation (y t)) ny s low) (a.in_range (λ t. o.negation (z t)) nz s low)
              (a.larger (λ t. o.negation (y t)) (λ t. o.negation (z t)) ny nz (λ t here. laws.antitone (z t) (y t) (hz t here) (hy t here) (h t here)) s low);
        }
