-- In a sequence of functions that moves one way, each value changes at most as often as a chain has steps.
use Rattle.std.proofs.Common.{◌≡◌, ◌≢◌, ℕ, zero, suc, ◌+◌, ◌*◌, ◌<◌, ◌≤◌, Bool, true, false, cond, eqb, List, [], ◌∷◌, length, ◌⊎◌, inl, inr, refl, sym, ap, subst, ◌∙◌, arith}
use Rattle.std.proofs.lemmas.Bool.{cases_eq, eq-eqb, ne_eqb}
use Rattle.xc_alg.specs.Operations.{Operations, IsAlgebra}
use Rattle.xc_fixpoint.specs.Functions.{IsFunction, Agree, Before, AreBefore}
use Rattle.xc_fixpoint.specs.Heights.{IsChain}

-- two functions agree, or there is a state at which they differ
pub agree_or_differ : (n : ℕ) (f g : ℕ → ℕ) → Agree n f g ⊎ ((s : ℕ) × (s < n) × (f s ≢ g s))
agree_or_differ zero f g = inl (λ s low. absurd (omega arith))
agree_or_differ (suc n) f g =
    elim (agree_or_differ n f g) [
      | inr apart ↦ inr (apart.0, omega (arith, apart.1), apart.2)
      | inl same ↦
          elim (cases_eq (f n) (g n)) [
            | inr apart ↦ inr (n, omega arith, apart)
            | inl here ↦
                inl (λ s low. elim (cases_eq s n) [
                  | inl last ↦ subst (λ (x : ℕ). f x ≡ g x) (sym last) here
                  | inr before ↦ same s (omega arith)
                ])
          ]
    ]

-- how often a sequence changes in its first k steps
abbrev changes : (ℕ → ℕ) → ℕ → ℕ
changes w zero = 0
changes w (suc k) = changes w k + cond (eqb (w k) (w (suc k))) 0 1

unchanged : (w : ℕ → ℕ) (k : ℕ) → w k ≡ w (suc k) → changes w (suc k) ≡ changes w k
unchanged w k same = rw (eq-eqb (w k) (w (suc k)) same) (omega arith)

changed : (w : ℕ → ℕ) (k : ℕ) → w k ≢ w (suc k) → changes w (suc k) ≡ suc (changes w k)
changed w k apart = rw (ne_eqb (w k) (w (suc k)) apart) (omega arith)

changes_grow : (w : ℕ → ℕ) (k : ℕ) → changes w k ≤ changes w (suc k)
changes_grow w k = omega arith

-- all at the first n states, of a sequence of functions
abbrev all_changes : ℕ → (ℕ → ℕ → ℕ) → ℕ → ℕ
all_changes zero v k = 0
all_changes (suc n) v k = all_changes n v k + changes (λ j. v j n) k

none_at_first : (n : ℕ) (v : ℕ → ℕ → ℕ) → all_changes n v 0 ≡ 0
none_at_first zero v = refl
none_at_first (suc n) v = omega (arith, none_at_first n v)

all_changes_grow : (n : ℕ) (v : ℕ → ℕ → ℕ) (k : ℕ) → all_changes n v k ≤ all_changes n v (suc k)
all_changes_grow zero v k = omega arith
all_changes_grow (suc n) v k = omega (arith, all_changes_grow n v k, changes_grow (λ j. v j n) k)

all_changes_grow_at : (n : ℕ) (v : ℕ → ℕ → ℕ) (k s : ℕ) → s < n → v k s ≢ v (suc k) s → suc (all_changes n v k) ≤ all_changes n v (suc k)
all_changes_grow_at zero v k s low apart = absurd (omega arith)
all_changes_grow_at (suc n) v k s low apart =
    elim (cases_eq s n) [
      | inl last ↦
          let here : v k n ≢ v (suc k) n = subst (λ (x : ℕ). v k x ≢ v (suc k) x) last apart in
          omega (arith, all_changes_grow n v k, changed (λ j. v j n) k here)
      | inr before ↦ omega (arith, all_changes_grow_at n v k s (omega arith) apart, changes_grow (λ j. v j n) k)
    ]

-- a change for each step, where no function agrees with the next one
all_changes_many : (n : ℕ) (v : ℕ → ℕ → ℕ) (k : ℕ) → ((j : ℕ) → j < k → Agree n (v j) (v (suc j)) → ⊥) → k ≤ all_changes n v k
all_changes_many n v zero apart = omega arith
all_changes_many n v (suc k) apart =
    elim (agree_or_differ n (v k) (v (suc k))) [
      | inl same ↦ absurd (apart k (omega arith) same)
      | inr differ ↦ omega (arith, all_changes_many n v k (λ j low. apart j (omega arith)), all_changes_grow_at n v k differ.0 differ.1 differ.2)
    ]

all_changes_few : (n : ℕ) (v : ℕ → ℕ → ℕ) (k m : ℕ) → ((s : ℕ) → s < n → changes (λ j. v j s) k ≤ m) → all_changes n v k ≤ n * m
all_changes_few zero v k m few = omega arith
all_changes_few (suc n) v k m few = omega (arith, all_changes_few n v k m (λ s low. few s (omega arith)), few n (omega arith))

-- a sequence that falls leaves a chain from where it is
module _ (o : Operations) (m : ℕ) (greatest : (xs : List ℕ) → IsChain o xs → length xs ≤ m + 1) where
  chain_of_changes : (w : ℕ → ℕ) (k : ℕ) → ((j : ℕ) → j ≤ k → w j < o.size) → ((j : ℕ) → j < k → o.below (w (suc j)) (w j) ≡ true)
      → (xs : List ℕ) × IsChain o (w k ∷ xs) × (length xs ≡ changes w k)
  chain_of_changes w zero within falls = ([], within 0 (omega arith), refl)
  chain_of_changes w (suc k) within falls =
      let rest = chain_of_changes w k (λ j low. within j (omega arith)) (λ j low. falls j (omega arith)) in
      elim (cases_eq (w k) (w (suc k))) [
        | inl same ↦ (rest.0, subst (λ (x : ℕ). IsChain o (x ∷ rest.0)) same rest.1, rest.2 ∙ sym (unchanged w k same))
        | inr apart ↦ (w k ∷ rest.0, (within (suc k) (omega arith), falls k (omega arith), (λ e. apart (sym e)), rest.1), ap suc rest.2 ∙ sym (changed w k apart))
      ]

  changes_few : (w : ℕ → ℕ) (k : ℕ) → ((j : ℕ) → j ≤ k → w j < o.size) → ((j : ℕ) → j < k → o.below (w (suc j)) (w j) ≡ true) → changes w k ≤ m
  changes_few w k within falls =
      let chain = chain_of_changes w k within falls in
      omega (arith, greatest (w k ∷ chain.0) chain.1, chain.2)

-- negation makes a falling sequence of a rising one
abbrev falling : Operations → Bool → ℕ → ℕ
falling o true a = o.negation a
falling o false a = a

module _ (o : Operations) (laws : IsAlgebra o) where
  falling_in_range : (up : Bool) (a : ℕ) → a < o.size → falling o up a < o.size
  falling_in_range true a ha = laws.negation_in_range a ha
  falling_in_range false a ha = ha

  falling_falls : (up : Bool) (a b : ℕ) → a < o.size → b < o.size → Before o up a b → o.below (falling o up b) (falling o up a) ≡ true
  falling_falls true a b ha hb h = laws.antitone a b ha hb h
  falling_falls false a b ha hb h = h

  falling_same : (up : Bool) (a b : ℕ) → a < o.size → b < o.size → falling o up a ≡ falling o up b → a ≡ b
  falling_same true a b ha hb e = sym (laws.involution a ha) ∙ (ap o.negation e ∙ laws.involution b hb)
  falling_same false a b ha hb e = e

  -- functions that move one way, none of them agreeing with the next one, are at most so many steps as states times the steps of a chain
  pub moving_functions_are_few : (up : Bool) (n m : ℕ) → ((xs : List ℕ) → IsChain o xs → length xs ≤ m + 1) → (v : ℕ → ℕ → ℕ) (k : ℕ)
      → ((j : ℕ) → j ≤ k → IsFunction o n (v j)) → ((j : ℕ) → j < k → AreBefore o up n (v j) (v (suc j)))
      → ((j : ℕ) → j < k → Agree n (v j) (v (suc j)) → ⊥) → k ≤ n * m
  moving_functions_are_few up n m greatest v k within moves apart =
      let w = λ (j : ℕ) (s : ℕ). falling o up (v j s) in
      let many : k ≤ all_changes n w k = all_changes_many n w k (λ j low same. apart j low (λ s here.
      falling_same up (v j s) (v (suc j) s) (within j (omega arith) s here) (within (suc j) (omega arith) s here) (same s here))) in
      let few : all_changes n w k ≤ n * m = all_changes_few n w k m (λ s here. changes_few o m greatest (λ j. w j s) k
      (λ j low. falling_in_range up (v j s) (within j low s here))
      (λ j low. falling_falls up (v j s) (v (suc j) s) (within j (omega arith) s here) (within (suc j) (omega arith) s here) (moves j low s here))) in
      omega arith
