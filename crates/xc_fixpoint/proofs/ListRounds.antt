-- The same loop over lists of values: `row` has those of a round, `next` what a step makes of them.
use Rattle.std.proofs.Common.{◌≡◌, ℕ, ◌+◌, ◌-◌, ◌*◌, ◌<◌, Bool, List, length, slice_index, sym, ap, ◌∙◌}
use Rattle.xc_alg.specs.Operations.{Operations, IsAlgebra}
use Rattle.xc_fixpoint.specs.Functions.{Agree}
use Rattle.xc_fixpoint.specs.Steps.{Step, IsMonotone}
use Rattle.xc_fixpoint.specs.Fixpoints.{IsExtremal}
use Rattle.xc_fixpoint.specs.Iterates.{start, Settles}
use Rattle.xc_fixpoint.specs.Heights.{IsHeight}
use Rattle.xc_fixpoint.specs.Lists.{values}
use Rattle.xc_fixpoint.proofs.Lists.{length-values, values_in_list, same_list}
use Rattle.xc_fixpoint.proofs.Rounds.{IsRound, first_round, next_round, round_leaves_less, round_leaves_less_of_size, last_round_is_extremal, last_round_settles}

module _ (o : Operations) (laws : IsAlgebra o) (up : Bool) (n : ℕ) (step : Step) (monotone : IsMonotone o n step) where
  pub first_list : (row : List ℕ) → row ≡ values n (λ s. start o up) → IsRound o up n step 0 (slice_index row)
  first_list row e = first_round o laws up n step monotone (slice_index row) (values_in_list n (λ s. start o up) row e)

  module _ (k : ℕ) (row next : List ℕ) (sized : length row ≡ n) (round : IsRound o up n step k (slice_index row)) (made : next ≡ values n (step (slice_index row))) where
    stepped : Agree n (slice_index next) (step (slice_index row))
    stepped = values_in_list n (step (slice_index row)) next made

    differs : (next ≡ row → ⊥) → Agree n (slice_index row) (slice_index next) → ⊥
    differs apart same = apart (sym (same_list n row next sized (ap length made ∙ length-values n (step (slice_index row))) same))

    agrees : next ≡ row → Agree n (slice_index row) (slice_index next)
    agrees same s low = ap (λ (xs : List ℕ). slice_index xs s) (sym same)

    -- another list is that of the next round, and less is left
    pub next_list : (later : ℕ) → later ≡ k + 1 → (next ≡ row → ⊥) → IsRound o up n step later (slice_index next)
    next_list later e apart = next_round o laws up n step monotone k (slice_index row) round (slice_index next) stepped later e (differs apart)

    pub list_leaves_less : (height : ℕ) → IsHeight o height → (next ≡ row → ⊥) → n * height - (k + 1) < n * height - k
    list_leaves_less height is apart = round_leaves_less o laws up n step monotone k (slice_index row) round (slice_index next) stepped height is (differs apart)

    pub list_leaves_less_of_size : (next ≡ row → ⊥) → n * o.size - (k + 1) < n * o.size - k
    list_leaves_less_of_size apart = round_leaves_less_of_size o laws up n step monotone k (slice_index row) round (slice_index next) stepped (differs apart)

    -- the same list is that of the fixpoint
    pub last_list_is_extremal : next ≡ row → IsExtremal o up n step (slice_index row)
    last_list_is_extremal same = last_round_is_extremal o laws up n step monotone k (slice_index row) round (slice_index next) stepped (agrees same)

    pub last_list_settles : next ≡ row → Settles o up n step k
    last_list_settles same = last_round_settles o laws up n step monotone k (slice_index row) round (slice_index next) stepped (agrees same)
