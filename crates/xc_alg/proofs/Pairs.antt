-- The algebra of two digits, the high one in p and the low one in q.
use Rattle.std.proofs.Common.{◌≡◌, ℕ, ◌+◌, ◌*◌, ◌/◌, ◌%◌, ◌<◌, true, ◌&&◌, sym, ap, ◌∙◌, arith}
use Rattle.std.proofs.lemmas.Bool.{and_parts, and_from}
use Rattle.std.proofs.lemmas.Nat.{div-mul-add, mod-mul-add, mul-add-lt, div-add-mod', div_below, mod_below}
use Rattle.std.proofs.Math.Nat.{mul_comm}
use Rattle.xc_alg.specs.Operations.{Operations, IsAlgebra}

abbrev pub pair : Operations → Operations → Operations
pair p q =
    record {
      size = p.size * q.size;
      below = λ a b. p.below (a / q.size) (b / q.size) && q.below (a % q.size) (b % q.size);
      meet = λ a b. p.meet (a / q.size) (b / q.size) * q.size + q.meet (a % q.size) (b % q.size);
      join = λ a b. p.join (a / q.size) (b / q.size) * q.size + q.join (a % q.size) (b % q.size);
      negation = λ a. p.negation (a / q.size) * q.size + q.negation (a % q.size);
      bottom = p.bottom * q.size + q.bottom;
      top = p.top * q.size + q.top;
    }

-- a number in two digits at a weight w
two_digits : (w h l : ℕ) (P : ℕ → ℕ → Type 0) → l < w → P h l → P ((h * w + l) / w) ((h * w + l) % w)
two_digits w h l P low x = rw (div-mul-add h w l low, mod-mul-add h w l low) x

same_digits : (w a b : ℕ) → a / w ≡ b / w → a % w ≡ b % w → a ≡ b
same_digits w a b high low = sym (div-add-mod' a w) ∙ (ap (λ (x : ℕ). x * w + a % w) high ∙ (ap (λ (x : ℕ). b / w * w + x) low ∙ div-add-mod' b w))

module _ (p q : Operations) (lp : IsAlgebra p) (lq : IsAlgebra q) where
  positive : 0 < q.size
  positive = omega (arith, lq.bottom_in_range)

  high : (a : ℕ) → a < p.size * q.size → a / q.size < p.size
  high a h = div_below a q.size p.size positive h

  low : (a : ℕ) → a % q.size < q.size
  low a = mod_below a q.size positive

  place : (h l : ℕ) → h < p.size → l < q.size → h * q.size + l < p.size * q.size
  place h l hh hl = rw (mul_comm p.size q.size) (mul-add-lt h q.size l p.size hh hl)

  -- what is below, by its digits
  below_parts : (a b : ℕ) → (pair p q).below a b ≡ true → (p.below (a / q.size) (b / q.size) ≡ true) × (q.below (a % q.size) (b % q.size) ≡ true)
  below_parts a b h = and_parts (p.below (a / q.size) (b / q.size)) (q.below (a % q.size) (b % q.size)) h

  below_from : (a b : ℕ) → p.below (a / q.size) (b / q.size) ≡ true → q.below (a % q.size) (b % q.size) ≡ true → (pair p q).below a b ≡ true
  below_from a b h l = and_from (p.below (a / q.size) (b / q.size)) (q.below (a % q.size) (b % q.size)) h l

  place_below : (h l b : ℕ) → l < q.size → p.below h (b / q.size) ≡ true → q.below l (b % q.size) ≡ true → (pair p q).below (h * q.size + l) b ≡ true
  place_below h l b within x y = two_digits q.size h l (λ m n. (p.below m (b / q.size) && q.below n (b % q.size)) ≡ true) within (and_from (p.below h (b / q.size)) (q.below l (b % q.size)) x y)

  below_place : (a h l : ℕ) → l < q.size → p.below (a / q.size) h ≡ true → q.below (a % q.size) l ≡ true → (pair p q).below a (h * q.size + l) ≡ true
  below_place a h l within x y = two_digits q.size h l (λ m n. (p.below (a / q.size) m && q.below (a % q.size) n) ≡ true) within (and_from (p.below (a / q.size) h) (q.below (a % q.size) l) x y)

  place_below_place : (h l m n : ℕ) → l < q.size → n < q.size → p.below h m ≡ true → q.below l n ≡ true → (pair p q).below (h * q.size + l) (m * q.size + n) ≡ true
  place_below_place h l m n within inside x y =
      two_digits q.size h l (λ s t. (p.below s ((m * q.size + n) / q.size) && q.below t ((m * q.size + n) % q.size)) ≡ true) within
      (two_digits q.size m n (λ s t. (p.below h s && q.below l t) ≡ true) inside (and_from (p.below h m) (q.below l n) x y))

  pair_distributive : (a b c : ℕ) → a < p.size * q.size → b < p.size * q.size → c < p.size * q.size → (pair p q).meet a ((pair p q).join b c) ≡ (pair p q).join ((pair p q).meet a b) ((pair p q).meet a c)
  pair_distributive a b c ha hb hc =
      two_digits q.size (p.join (b / q.size) (c / q.size)) (q.join (b % q.size) (c % q.size))
      (λ s t. p.meet (a / q.size) s * q.size + q.meet (a % q.size) t ≡ (pair p q).join ((pair p q).meet a b) ((pair p q).meet a c))
      (lq.join_in_range (b % q.size) (c % q.size) (low b) (low c))
      (two_digits q.size (p.meet (a / q.size) (b / q.size)) (q.meet (a % q.size) (b % q.size))
      (λ s t. p.meet (a / q.size) (p.join (b / q.size) (c / q.size)) * q.size + q.meet (a % q.size) (q.join (b % q.size) (c % q.size))
      ≡ p.join s ((pair p q).meet a c / q.size) * q.size + q.join t ((pair p q).meet a c % q.size))
      (lq.meet_in_range (a % q.size) (b % q.size) (low a) (low b))
      (two_digits q.size (p.meet (a / q.size) (c / q.size)) (q.meet (a % q.size) (c % q.size))
      (λ s t. p.meet (a / q.size) (p.join (b / q.size) (c / q.size)) * q.size + q.meet (a % q.size) (q.join (b % q.size) (c % q.size))
      ≡ p.join (p.meet (a / q.size) (b / q.size)) s * q.size + q.join (q.meet (a % q.size) (b % q.size)) t)
      (lq.meet_in_range (a % q.size) (c % q.size) (low a) (low c))
      (ap (λ (x : ℕ). x * q.size + q.meet (a % q.size) (q.join (b % q.size) (c % q.size))) (lp.distributive (a / q.size) (b / q.size) (c / q.size) (high a ha) (high b hb) (high c hc))
      ∙ ap (λ (x : ℕ). p.join (p.meet (a / q.size) (b / q.size)) (p.meet (a / q.size) (c / q.size)) * q.size + x) (lq.distributive (a % q.size) (b % q.size) (c % q.size) (low a) (low b) (low c)))))

  pair_involution : (a : ℕ) → a < p.size * q.size → (pair p q).negation ((pair p q).negation a) ≡ a
  pair_involution a ha =
      two_digits q.size (p.negation (a / q.size)) (q.negation (a % q.size)) (λ s t. p.negation s * q.size + q.negation t ≡ a)
      (lq.negation_in_range (a % q.size) (low a))
      (ap (λ (x : ℕ). x * q.size + q.negation (q.negation (a % q.size))) (lp.involution (a / q.size) (high a ha))
      ∙ (ap (λ (x : ℕ). a / q.size * q.size + x) (lq.involution (a % q.size) (low a)) ∙ div-add-mod' a q.size))

  pair_antisymmetric : (a b : ℕ) → a < p.size * q.size → b < p.size * q.size → (pair p q).below a b ≡ true → (pair p q).below b a ≡ true → a ≡ b
  pair_antisymmetric a b ha hb h k =
      let forth = below_parts a b h in
      let back = below_parts b a k in
      same_digits q.size a b (lp.antisymmetric (a / q.size) (b / q.size) (high a ha) (high b hb) forth.0 back.0)
      (lq.antisymmetric (a % q.size) (b % q.size) (low a) (low b) forth.1 back.1)

  pair_transitive : (a b c : ℕ) → a < p.size * q.size → b < p.size * q.size → c < p.size * q.size → (pair p q).below a b ≡ true → (pair p q).below b c ≡ true → (pair p q).below a c ≡ true
  pair_transitive a b c ha hb hc h k =
      let first = below_parts a b h in
      let second = below_parts b c k in
      below_from a c (lp.transitive (a / q.size) (b / q.size) (c / q.size) (high a ha) (high b hb) (high c hc) first.0 second.0)
      (lq.transitive (a % q.size) (b % q.size) (c % q.size) (low a) (low b) (low c) first.1 second.1)

  pair_meet_greatest : (a b c : ℕ) → a < p.size * q.size → b < p.size * q.size → c < p.size * q.size → (pair p q).below c a ≡ true → (pair p q).below c b ≡ true → (pair p q).below c ((pair p q).meet a b) ≡ true
  pair_meet_greatest a b c ha hb hc h k =
      let left = below_parts c a h in
      let right = below_parts c b k in
      below_place c (p.meet (a / q.size) (b / q.size)) (q.meet (a % q.size) (b % q.size)) (lq.meet_in_range (a % q.size) (b % q.size) (low a) (low b))
      (lp.meet_greatest (a / q.size) (b / q.size) (c / q.size) (high a ha) (high b hb) (high c hc) left.0 right.0)
      (lq.meet_greatest (a % q.size) (b % q.size) (c % q.size) (low a) (low b) (low c) left.1 right.1)

  pair_join_least : (a b c : ℕ) → a < p.size * q.size → b < p.size * q.size → c < p.size * q.size → (pair p q).below a c ≡ true → (pair p q).below b c ≡ true → (pair p q).below ((pair p q).join a b) c ≡ true
  pair_join_least a b c ha hb hc h k =
      let left = below_parts a c h in
      let right = below_parts b c k in
      place_below (p.join (a / q.size) (b / q.size)) (q.join (a % q.size) (b % q.size)) c (lq.join_in_range (a % q.size) (b % q.size) (low a) (low b))
      (lp.join_least (a / q.size) (b / q.size) (c / q.size) (high a ha) (high b hb) (high c hc) left.0 right.0)
      (lq.join_least (a % q.size) (b % q.size) (c % q.size) (low a) (low b) (low c) left.1 right.1)

  pair_antitone : (a b : ℕ) → a < p.size * q.size → b < p.size * q.size → (pair p q).below a b ≡ true → (pair p q).below ((pair p q).negation b) ((pair p q).negation a) ≡ true
  pair_antitone a b ha hb h =
      let both = below_parts a b h in
      place_below_place (p.negation (b / q.size)) (q.negation (b % q.size)) (p.negation (a / q.size)) (q.negation (a % q.size))
      (lq.negation_in_range (b % q.size) (low b)) (lq.negation_in_range (a % q.size) (low a))
      (lp.antitone (a / q.size) (b / q.size) (high a ha) (high b hb) both.0) (lq.antitone (a % q.size) (b % q.size) (low a) (low b) both.1)

  pub pair_laws : IsAlgebra (pair p q)
  pair_laws =
      record {
        reflexive = λ a ha. below_from a a (lp.reflexive (a / q.size) (high a ha)) (lq.reflexive (a % q.size) (low a));
        transitive = pair_transitive;
        antisymmetric = pair_antisymmetric;
        meet_in_range = λ a b ha hb.
            place (p.meet (a / q.size) (b / q.size)) (q.meet (a % q.size) (b % q.size)) (lp.meet_in_range (a / q.size) (b / q.size) (high a ha) (high b hb)) (lq.meet_in_range (a % q.size) (b % q.size) (low a) (low b));
        meet_below_left = λ a b ha hb.
            place_below (p.meet (a / q.size) (b / q.size)) (q.meet (a % q.size) (b % q.size)) a (lq.meet_in_range (a % q.size) (b % q.size) (low a) (low b))
            (lp.meet_below_left (a / q.size) (b / q.size) (high a ha) (high b hb)) (lq.meet_below_left (a % q.size) (b % q.size) (low a) (low b));
        meet_below_right = λ a b ha hb.
            place_below (p.meet (a / q.size) (b / q.size)) (q.meet (a % q.size) (b % q.size)) b (lq.meet_in_range (a % q.size) (b % q.size) (low a) (low b))
            (lp.meet_below_right (a / q.size) (b / q.size) (high a ha) (high b hb)) (lq.meet_below_right (a % q.size) (b % q.size) (low a) (low b));
        meet_greatest = pair_meet_greatest;
        join_in_range = λ a b ha hb.
            place (p.join (a / q.size) (b / q.size)) (q.join (a % q.size) (b % q.size)) (lp.join_in_range (a / q.size) (b / q.size) (high a ha) (high b hb)) (lq.join_in_range (a % q.size) (b % q.size) (low a) (low b));
        join_above_left = λ a b ha hb.
            below_place a (p.join (a / q.size) (b / q.size)) (q.join (a % q.size) (b % q.size)) (lq.join_in_range (a % q.size) (b % q.size) (low a) (low b))
            (lp.join_above_left (a / q.size) (b / q.size) (high a ha) (high b hb)) (lq.join_above_left (a % q.size) (b % q.size) (low a) (low b));
        join_above_right = λ a b ha hb.
            below_place b (p.join (a / q.size) (b / q.size)) (q.join (a % q.size) (b % q.size)) (lq.join_in_range (a % q.size) (b % q.size) (low a) (low b))
            (lp.join_above_right (a / q.size) (b / q.size) (high a ha) (high b hb)) (lq.join_above_right (a % q.size) (b % q.size) (low a) (low b));
        join_least = pair_join_least;
        distributive = pair_distributive;
        negation_in_range = λ a ha.
            place (p.negation (a / q.size)) (q.negation (a % q.size)) (lp.negation_in_range (a / q.size) (high a ha)) (lq.negation_in_range (a % q.size) (low a));
        involution = pair_involution;
        antitone = pair_antitone;
        bottom_in_range = place p.bottom q.bottom lp.bottom_in_range lq.bottom_in_range;
        bottom_below = λ a ha. place_below p.bottom q.bottom a lq.bottom_in_range (lp.bottom_below (a / q.size) (high a ha)) (lq.bottom_below (a % q.size) (low a));
        top_in_range = place p.top q.top lp.top_in_range lq.top_in_range;
        top_above = λ a ha. below_place a p.top q.top lq.top_in_range (lp.top_above (a / q.size) (high a ha)) (lq.top_above (a % q.size) (low a));
      }
