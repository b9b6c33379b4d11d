-- The iterates of a monotone step settle, at one number, which is at most the number of states times the height.
use Rattle.std.proofs.Common.{◌≡◌, ℕ, zero, suc, ◌+◌, ◌-◌, ◌*◌, ◌<◌, ◌≤◌, Bool, List, length, ◌⊎◌, inl, inr, subst, sym, ap, ◌∙◌, arith}
use Rattle.std.proofs.lemmas.Bool.{cases_lt, cases_eq}
use Rattle.xc_alg.specs.Operations.{Operations, IsAlgebra}
use Rattle.xc_fixpoint.specs.Functions.{Agree}
use Rattle.xc_fixpoint.specs.Steps.{Step, IsMonotone}
use Rattle.xc_fixpoint.specs.Iterates.{iterate, AreUnsettled, Settles}
use Rattle.xc_fixpoint.specs.Heights.{IsChain, IsHeight}
use Rattle.xc_fixpoint.proofs.Directions.{step_keeps_agree}
use Rattle.xc_fixpoint.proofs.Chains.{chain_fits}
use Rattle.xc_fixpoint.proofs.Changes.{agree_or_differ, moving_functions_are_few}
use Rattle.xc_fixpoint.proofs.Iterates.{iterate_in_range, iterate_before_next}

-- no iterate before the first agrees with the next one, and one more where that one does not
pub none_unsettled : (o : Operations) (up : Bool) (n : ℕ) (step : Step) → AreUnsettled o up n step 0
none_unsettled o up n step j low = absurd (omega arith)

pub one_more_unsettled : (o : Operations) (up : Bool) (n : ℕ) (step : Step) (k next : ℕ) → next ≡ k + 1 → AreUnsettled o up n step k → (Agree n (iterate o up step k) (iterate o up step (suc k)) → ⊥) → AreUnsettled o up n step next
one_more_unsettled o up n step k next e before apart j low =
    elim (cases_eq j k) [
      | inl last ↦ λ same. apart (subst (λ (x : ℕ). Agree n (iterate o up step x) (iterate o up step (suc x))) last same)
      | inr other ↦ before j (omega arith)
    ]

-- they settle once
pub settles_once : (o : Operations) (up : Bool) (n : ℕ) (step : Step) (j k : ℕ) → Settles o up n step j → Settles o up n step k → j ≡ k
settles_once o up n step j k hj hk =
    elim (cases_lt j k) [
      | inl less ↦ absurd (hk.unsettled j less hj.settled)
      | inr more ↦
          elim (cases_eq k j) [
            | inl same ↦ sym same
            | inr other ↦ absurd (hj.unsettled k (omega arith) hk.settled)
          ]
    ]

-- within the first k they settle or they do not
settled_or_not : (o : Operations) (up : Bool) (n : ℕ) (step : Step) (k : ℕ) → ((j : ℕ) × Settles o up n step j) ⊎ AreUnsettled o up n step k
settled_or_not o up n step zero = inr (none_unsettled o up n step)
settled_or_not o up n step (suc k) =
    elim (settled_or_not o up n step k) [
      | inl settles ↦ inl settles
      | inr before ↦
          elim (agree_or_differ n (iterate o up step k) (iterate o up step (suc k))) [
            | inl same ↦ inl (k, record { settled = same; unsettled = before })
            | inr differ ↦ inr (one_more_unsettled o up n step k (suc k) (omega arith) before (λ same. differ.2 (same differ.0 differ.1)))
          ]
    ]

module _ (o : Operations) (laws : IsAlgebra o) (up : Bool) (n : ℕ) (step : Step) (monotone : IsMonotone o n step) where
  -- as long as none agrees with the next one, they are at most so many as states times the steps of a chain
  pub unsettled_within : (m k : ℕ) → ((xs : List ℕ) → IsChain o xs → length xs ≤ m + 1) → AreUnsettled o up n step k → k ≤ n * m
  unsettled_within m k greatest apart =
      moving_functions_are_few o laws up n m greatest (iterate o up step) k (λ j low. iterate_in_range o laws up n step monotone j) (λ j low. iterate_before_next o laws up n step monotone j) apart

  pub unsettled_are_few : (height k : ℕ) → IsHeight o height → AreUnsettled o up n step k → k ≤ n * height
  unsettled_are_few height k is apart = unsettled_within height k is.greatest apart

  -- and at most so many as states times elements, whatever the height
  pub unsettled_within_size : (k : ℕ) → AreUnsettled o up n step k → k ≤ n * o.size
  unsettled_within_size k apart = unsettled_within o.size k (λ xs chain. omega (arith, chain_fits o laws xs chain)) apart

  -- so less is left of that number after another iterate that does not agree with the next one
  pub less_is_left : (height k : ℕ) → IsHeight o height → AreUnsettled o up n step k → (Agree n (iterate o up step k) (iterate o up step (suc k)) → ⊥) → n * height - (k + 1) < n * height - k
  less_is_left height k is before apart = omega (arith, unsettled_are_few height (suc k) is (one_more_unsettled o up n step k (suc k) (omega arith) before apart))

  pub less_is_left_by_size : (k : ℕ) → AreUnsettled o up n step k → (Agree n (iterate o up step k) (iterate o up step (suc k)) → ⊥) → n * o.size - (k + 1) < n * o.size - k
  less_is_left_by_size k before apart = omega (arith, unsettled_within_size (suc k) (one_more_unsettled o up n step k (suc k) (omega arith) before apart))

  -- they settle
  pub iterates_settle : (k : ℕ) × Settles o up n step k
  iterates_settle =
      elim (settled_or_not o up n step (suc (n * o.size))) [
        | inl settles ↦ settles
        | inr apart ↦ absurd (omega (arith, unsettled_within_size (suc (n * o.size)) apart))
      ]

  pub settles_soon : (height k : ℕ) → IsHeight o height → Settles o up n step k → k ≤ n * height
  settles_soon height k is settles = unsettled_are_few height k is settles.unsettled

  -- and stay as they are
  pub settled_stays : (k later : ℕ) → k ≤ later → Agree n (iterate o up step k) (iterate o up step (suc k)) → Agree n (iterate o up step k) (iterate o up step later)
  settled_stays k zero order same = let none : k ≡ 0 = omega arith in λ s low. ap (λ (x : ℕ). iterate o up step x s) none
  settled_stays k (suc later) order same =
      elim (cases_eq k (suc later)) [
        | inl last ↦ λ s low. ap (λ (x : ℕ). iterate o up step x s) last
        | inr other ↦ λ s low.
            same s low
            ∙ step_keeps_agree o laws n step monotone (iterate o up step k) (iterate o up step later) (iterate_in_range o laws up n step monotone k) (iterate_in_range o laws up n step monotone later)
            (settled_stays k later (omega arith) same) s low
      ]
