-- A loop that steps on until a step changes nothing: what is known of its function in each round, and that it ends.
use Rattle.std.proofs.Common.{◌≡◌, ℕ, suc, ◌+◌, ◌-◌, ◌*◌, ◌<◌, ◌≤◌, Bool, sym, ap, ◌∙◌}
use Rattle.xc_alg.specs.Operations.{Operations, IsAlgebra}
use Rattle.xc_fixpoint.specs.Functions.{IsFunction, Agree}
use Rattle.xc_fixpoint.specs.Steps.{Step, IsMonotone}
use Rattle.xc_fixpoint.specs.Fixpoints.{IsExtremal}
use Rattle.xc_fixpoint.specs.Iterates.{start, iterate, AreUnsettled, Settles}
use Rattle.xc_fixpoint.specs.Heights.{IsHeight}
use Rattle.xc_fixpoint.proofs.Directions.{agree-function, step_keeps_agree}
use Rattle.xc_fixpoint.proofs.Iterates.{iterate_in_range, iterate_more, settled_is_extremal}
use Rattle.xc_fixpoint.proofs.Settling.{none_unsettled, one_more_unsettled, unsettled_are_few, unsettled_within_size, less_is_left, less_is_left_by_size}
use Rattle.xc_fixpoint.proofs.Fixpoints.{agree-extremal}

-- f has the values of the k-th iterate, and no iterate before it agrees with the next one
pub record IsRound (o : Operations) (up : Bool) (n : ℕ) (step : Step) (k : ℕ) (f : ℕ → ℕ) : Type 0 where
  pub same : Agree n f (iterate o up step k)
  pub unsettled : AreUnsettled o up n step k

module _ (o : Operations) (laws : IsAlgebra o) (up : Bool) (n : ℕ) (step : Step) (monotone : IsMonotone o n step) where
  -- the loop begins with the bottom, or the top, everywhere
  pub first_round : (f : ℕ → ℕ) → ((s : ℕ) → s < n → f s ≡ start o up) → IsRound o up n step 0 f
  first_round f begun = record { same = begun; unsettled = none_unsettled o up n step }

  module _ (k : ℕ) (f : ℕ → ℕ) (round : IsRound o up n step k f) where
    pub round_in_range : IsFunction o n f
    round_in_range = agree-function o n (iterate o up step k) f (λ s low. sym (round.same s low)) (iterate_in_range o laws up n step monotone k)

    round_stepped : Agree n (step f) (iterate o up step (suc k))
    round_stepped = step_keeps_agree o laws n step monotone f (iterate o up step k) round_in_range (iterate_in_range o laws up n step monotone k) round.same

    -- its rounds are at most so many
    pub round_is_soon : (height : ℕ) → IsHeight o height → k ≤ n * height
    round_is_soon height is = unsettled_are_few o laws up n step monotone height k is round.unsettled

    pub round_is_within_size : k ≤ n * o.size
    round_is_within_size = unsettled_within_size o laws up n step monotone k round.unsettled

    -- g is what a step makes of f
    module _ (g : ℕ → ℕ) (stepped : Agree n g (step f)) where
      differs : (Agree n f g → ⊥) → Agree n (iterate o up step k) (iterate o up step (suc k)) → ⊥
      differs apart settled = apart (λ s low. round.same s low ∙ (settled s low ∙ sym (stepped s low ∙ round_stepped s low)))

      -- where it is another, the loop goes on with it, and less is left
      pub next_round : (next : ℕ) → next ≡ k + 1 → (Agree n f g → ⊥) → IsRound o up n step next g
      next_round next e apart =
          record {
            same = λ s low. stepped s low ∙ (round_stepped s low ∙ sym (ap (λ (h : ℕ → ℕ). h s) (iterate_more o up step k next e)));
            unsettled = one_more_unsettled o up n step k next e round.unsettled (differs apart);
          }

      pub round_leaves_less : (height : ℕ) → IsHeight o height → (Agree n f g → ⊥) → n * height - (k + 1) < n * height - k
      round_leaves_less height is apart = less_is_left o laws up n step monotone height k is round.unsettled (differs apart)

      pub round_leaves_less_of_size : (Agree n f g → ⊥) → n * o.size - (k + 1) < n * o.size - k
      round_leaves_less_of_size apart = less_is_left_by_size o laws up n step monotone k round.unsettled (differs apart)

      -- where it is the same, the loop ends with the fixpoint, and the iterates have settled
      settled_round : Agree n f g → Agree n (iterate o up step k) (iterate o up step (suc k))
      settled_round same s low = sym (round.same s low) ∙ (same s low ∙ (stepped s low ∙ round_stepped s low))

      pub last_round_is_extremal : Agree n f g → IsExtremal o up n step f
      last_round_is_extremal same =
          agree-extremal o laws up n step monotone (iterate o up step k) f (λ s low. sym (round.same s low)) (settled_is_extremal o laws up n step monotone k (settled_round same))

      pub last_round_settles : Agree n f g → Settles o up n step k
      last_round_settles same = record { settled = settled_round same; unsettled = round.unsettled }
