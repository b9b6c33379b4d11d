-- Lawful lattice data break no law.
use Rattle.std.proofs.Common.{◌≡◌, ℕ, ◌<◌, Bool, true, false, ◌&&◌, not, eqb, List, [], ◌∷◌, Option, Some, None, is_none, refl, sym, ap}
use Rattle.std.specs.List.{find}
use Rattle.std.proofs.lemmas.Bool.{eq-eqb}
use Rattle.xc_theory.specs.Bounds.{first_meet, first_join}
use Rattle.xc_theory.specs.Lattices.{LatticeData, size, below, meet, join, negation, IsLawful}
use Rattle.xc_theory.proofs.Bounds.{no_other_meets, no_other_joins}
use Rattle.xc_laws.specs.Breaks.{tuples, breaks, first_tuple, first_break}
use Rattle.xc_laws.specs.Lawful.{LawfulIsUnbroken}
use Rattle.xc_laws.specs.declared.law.Law.TheVariants.{Antisymmetry, Meet, Join, Distributive, Involution, Antitone}
use Rattle.xc_laws.proofs.Finding.{tuples_none}

-- a test that no tuple of numbers below n passes
none_passes : (p : List ℕ → Bool) (n : ℕ) → p [] ≡ false → find p (tuples n 0) ≡ None
unfolding tuples
none_passes p n h = rw h

no_one_passes : (p : List ℕ → Bool) (n : ℕ) → ((a : ℕ) → a < n → p (a ∷ []) ≡ false) → find p (tuples n 1) ≡ None
no_one_passes p n h = tuples_none p n 0 (λ a a_in. none_passes (λ t. p (a ∷ t)) n (h a a_in))

no_two_pass : (p : List ℕ → Bool) (n : ℕ) → ((a b : ℕ) → a < n → b < n → p (a ∷ b ∷ []) ≡ false) → find p (tuples n 2) ≡ None
no_two_pass p n h = tuples_none p n 1 (λ a a_in. no_one_passes (λ t. p (a ∷ t)) n (λ b b_in. h a b a_in b_in))

no_three_pass : (p : List ℕ → Bool) (n : ℕ) → ((a b c : ℕ) → a < n → b < n → c < n → p (a ∷ b ∷ c ∷ []) ≡ false) → find p (tuples n 3) ≡ None
no_three_pass p n h = tuples_none p n 2 (λ a a_in. no_two_pass (λ t. p (a ∷ t)) n (λ b c b_in c_in. h a b c a_in b_in c_in))

-- the tests of a law, where what it says holds
not_different : (x y : ℕ) → x ≡ y → not (eqb x y) ≡ false
not_different x y e = ap not (eq-eqb x y e)

not_two_ways : (x y z : Bool) → (y ≡ true → z ≡ true → x ≡ true) → (not x && y && z) ≡ false
not_two_ways true y z h = refl
not_two_ways false true true h = sym (h refl refl)
not_two_ways false true false h = refl
not_two_ways false false z h = refl

not_without : (x y : Bool) → (x ≡ true → y ≡ true) → (x && not y) ≡ false
not_without true y h = ap not (h refl)
not_without false y h = refl

is_found : (o : Option ℕ) → (o ≡ None → ⊥) → is_none o ≡ false
is_found None h = absurd (h refl)
is_found (Some m) h = refl

-- no tuple breaks a law of a lawful lattice
module _ (l : LatticeData) (h : IsLawful l) where
  antisymmetry_unbroken : first_tuple l Antisymmetry ≡ None
  unfolding first_tuple
  antisymmetry_unbroken =
      no_two_pass (breaks l Antisymmetry) (size l)
      (λ a b a_in b_in. not_two_ways (eqb a b) (below l a b) (below l b a) (λ ab ba. eq-eqb a b (h.antisymmetric a b a_in b_in ab ba)))

  meet_unbroken : first_tuple l Meet ≡ None
  unfolding first_tuple
  meet_unbroken =
      no_two_pass (breaks l Meet) (size l)
      (λ a b a_in b_in. is_found (first_meet l.order (a ∷ b ∷ [])) (λ none. no_other_meets l.order (a ∷ b ∷ []) (meet l a b) none (h.meets a b a_in b_in)))

  join_unbroken : first_tuple l Join ≡ None
  unfolding first_tuple
  join_unbroken =
      no_two_pass (breaks l Join) (size l)
      (λ a b a_in b_in. is_found (first_join l.order (a ∷ b ∷ [])) (λ none. no_other_joins l.order (a ∷ b ∷ []) (join l a b) none (h.joins a b a_in b_in)))

  distribution_unbroken : first_tuple l Distributive ≡ None
  unfolding first_tuple
  distribution_unbroken =
      no_three_pass (breaks l Distributive) (size l)
      (λ a b c a_in b_in c_in. not_different (meet l a (join l b c)) (join l (meet l a b) (meet l a c)) (h.distributive a b c a_in b_in c_in))

  involution_unbroken : first_tuple l Involution ≡ None
  unfolding first_tuple
  involution_unbroken =
      no_one_passes (breaks l Involution) (size l) (λ a a_in. not_different (negation l (negation l a)) a (h.involution a a_in))

  antitone_unbroken : first_tuple l Antitone ≡ None
  unfolding first_tuple
  antitone_unbroken =
      no_two_pass (breaks l Antitone) (size l)
      (λ a b a_in b_in. not_without (below l a b) (below l (negation l b) (negation l a)) (h.antitone a b a_in b_in))

-- and so none is found
pub lawful_is_unbroken : LawfulIsUnbroken
unfolding first_break
lawful_is_unbroken l h =
    rw (antisymmetry_unbroken l h, meet_unbroken l h, join_unbroken l h, distribution_unbroken l h, involution_unbroken l h, antitone_unbroken l h)
