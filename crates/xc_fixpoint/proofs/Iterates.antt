-- The iterates of a monotone step, and that one which agrees with the next one is the extremal fixpoint.
use Rattle.std.proofs.Common.{◌≡◌, ℕ, zero, suc, ◌+◌, Bool, sym, ap, arith}
use Rattle.xc_alg.specs.Operations.{Operations, IsAlgebra}
use Rattle.xc_fixpoint.specs.Functions.{IsFunction, Agree, AreBefore}
use Rattle.xc_fixpoint.specs.Steps.{Step, IsMonotone}
use Rattle.xc_fixpoint.specs.Fixpoints.{IsFixpoint, IsExtremal}
use Rattle.xc_fixpoint.specs.Iterates.{iterate}
use Rattle.xc_fixpoint.proofs.Directions.{start_in_range, start_before, are_before_transitive, agree-before, step_keeps_before}

-- the next iterate, as code counts
pub iterate_more : (o : Operations) (up : Bool) (step : Step) (k next : ℕ) → next ≡ k + 1 → iterate o up step next ≡ step (iterate o up step k)
iterate_more o up step k next e = let e' : next ≡ suc k = omega arith in ap (iterate o up step) e'

module _ (o : Operations) (laws : IsAlgebra o) (up : Bool) (n : ℕ) (step : Step) (monotone : IsMonotone o n step) where
  pub iterate_in_range : (k : ℕ) → IsFunction o n (iterate o up step k)
  iterate_in_range zero s low = start_in_range o laws up
  iterate_in_range (suc k) s low = monotone.in_range (iterate o up step k) (iterate_in_range k) s low

  pub iterate_before_next : (k : ℕ) → AreBefore o up n (iterate o up step k) (iterate o up step (suc k))
  iterate_before_next zero s low = start_before o laws up (iterate o up step 1 s) (iterate_in_range 1 s low)
  iterate_before_next (suc k) s low =
      step_keeps_before o laws up n step monotone (iterate o up step k) (iterate o up step (suc k)) (iterate_in_range k) (iterate_in_range (suc k)) (iterate_before_next k) s low

  -- each iterate comes before a function that the step takes before itself
  pub iterate_by_induction : (k : ℕ) (g : ℕ → ℕ) → IsFunction o n g → AreBefore o up n (step g) g → AreBefore o up n (iterate o up step k) g
  iterate_by_induction zero g hg h s low = start_before o laws up (g s) (hg s low)
  iterate_by_induction (suc k) g hg h s low =
      are_before_transitive o laws up n (step (iterate o up step k)) (step g) g
      (monotone.in_range (iterate o up step k) (iterate_in_range k)) (monotone.in_range g hg) hg
      (step_keeps_before o laws up n step monotone (iterate o up step k) g (iterate_in_range k) hg (iterate_by_induction k g hg h)) h s low

  fixpoint_taken_before : (g : ℕ → ℕ) → IsFixpoint o n step g → AreBefore o up n (step g) g
  fixpoint_taken_before g h = agree-before o laws up n (step g) g (monotone.in_range g h.in_range) (λ s low. sym (h.fixed s low))

  -- an iterate that agrees with the next one is the extremal fixpoint
  pub settled_is_extremal : (k : ℕ) → Agree n (iterate o up step k) (iterate o up step (suc k)) → IsExtremal o up n step (iterate o up step k)
  settled_is_extremal k same =
      record {
        fixpoint = record { in_range = iterate_in_range k; fixed = same };
        first = λ g h. iterate_by_induction k g h.in_range (fixpoint_taken_before g h);
      }
