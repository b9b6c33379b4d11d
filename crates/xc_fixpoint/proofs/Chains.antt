-- A chain has no more elements than the algebra.
use Rattle.std.proofs.Common.{◌≡◌, ◌≢◌, ℕ, zero, suc, ◌+◌, ◌<◌, ◌≤◌, Bool, true, false, cond, List, [], ◌∷◌, length, inl, inr, refl, subst, arith}
use Rattle.std.proofs.lemmas.Bool.{cases_Bool, cases_eq}
use Rattle.xc_alg.specs.Operations.{Operations, IsAlgebra}
use Rattle.xc_fixpoint.specs.Heights.{IsChain}

-- how many numbers below m pass
abbrev passing : (ℕ → Bool) → ℕ → ℕ
passing p zero = 0
passing p (suc m) = passing p m + cond (p m) 1 0

one_at_most : (x : Bool) → cond x 1 0 ≤ 1
one_at_most true = omega arith
one_at_most false = omega arith

passing-le : (p : ℕ → Bool) (m : ℕ) → passing p m ≤ m
passing-le p zero = omega arith
passing-le p (suc m) = omega (arith, passing-le p m, one_at_most (p m))

weaker_choice : (x y : Bool) → (x ≡ true → y ≡ true) → cond x 1 0 ≤ cond y 1 0
weaker_choice true y h = rw (h refl) (omega arith)
weaker_choice false y h = omega arith

passing_more : (p q : ℕ → Bool) (m : ℕ) → ((i : ℕ) → i < m → p i ≡ true → q i ≡ true) → passing p m ≤ passing q m
passing_more p q zero h = omega arith
passing_more p q (suc m) h = omega (arith, passing_more p q m (λ i low. h i (omega arith)), weaker_choice (p m) (q m) (h m (omega arith)))

passing_one_more : (p q : ℕ → Bool) (m j : ℕ) → ((i : ℕ) → i < m → p i ≡ true → q i ≡ true) → j < m → p j ≡ false → q j ≡ true → passing p m < passing q m
passing_one_more p q zero j h low off on = absurd (omega arith)
passing_one_more p q (suc m) j h low off on =
    elim (cases_eq j m) [
      | inl same ↦
          let off' : p m ≡ false = subst (λ (x : ℕ). p x ≡ false) same off in
          let on' : q m ≡ true = subst (λ (x : ℕ). q x ≡ true) same on in
          rw (off', on') (omega (arith, passing_more p q m (λ i below. h i (omega arith))))
      | inr other ↦
          omega (arith, passing_one_more p q m j (λ i below. h i (omega arith)) (omega arith) off on, weaker_choice (p m) (q m) (h m (omega arith)))
    ]

passing_some : (p : ℕ → Bool) (m j : ℕ) → j < m → p j ≡ true → 0 < passing p m
passing_some p zero j low on = absurd (omega arith)
passing_some p (suc m) j low on =
    elim (cases_eq j m) [
      | inl same ↦ let on' : p m ≡ true = subst (λ (x : ℕ). p x ≡ true) same on in rw on' (omega arith)
      | inr other ↦ omega (arith, passing_some p m j (omega arith) on)
    ]

pub chain_head : (o : Operations) (x : ℕ) (xs : List ℕ) → IsChain o (x ∷ xs) → x < o.size
chain_head o x [] h = h
chain_head o x (y ∷ rest) h = h.0

module _ (o : Operations) (laws : IsAlgebra o) where
  -- how many elements are below an element
  abbrev rank : ℕ → ℕ
  rank a = passing (λ b. o.below b a) o.size

  rank_grows : (a b : ℕ) → a < o.size → b < o.size → o.below a b ≡ true → a ≢ b → rank a < rank b
  rank_grows a b ha hb h apart =
      elim (cases_Bool (o.below b a)) [
        | inl back ↦ absurd (apart (laws.antisymmetric a b ha hb h back))
        | inr off ↦
            passing_one_more (λ c. o.below c a) (λ c. o.below c b) o.size b (λ c hc below. laws.transitive c a b hc ha hb below h) hb off (laws.reflexive b hb)
      ]

  rank_positive : (a : ℕ) → a < o.size → 0 < rank a
  rank_positive a ha = passing_some (λ b. o.below b a) o.size a ha (laws.reflexive a ha)

  chain_climbs : (x : ℕ) (xs : List ℕ) → IsChain o (x ∷ xs) → length xs + rank x ≤ o.size
  chain_climbs x [] h = omega (arith, passing-le (λ b. o.below b x) o.size)
  chain_climbs x (y ∷ rest) h = omega (arith, chain_climbs y rest h.3, rank_grows x y h.0 (chain_head o y rest h.3) h.1 h.2)

  pub chain_fits : (xs : List ℕ) → IsChain o xs → length xs ≤ o.size
  chain_fits [] h = omega arith
  chain_fits (x ∷ xs) h = omega (arith, chain_climbs x xs h, rank_positive x (chain_head o x xs h))
