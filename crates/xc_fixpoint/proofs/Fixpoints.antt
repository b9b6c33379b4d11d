-- A monotone step has a least and a greatest fixpoint: in each direction one extremal fixpoint.
use Rattle.std.proofs.Common.{ℕ, suc, Bool, sym, ◌∙◌, subst}
use Rattle.xc_alg.specs.Operations.{Operations, IsAlgebra}
use Rattle.xc_fixpoint.specs.Functions.{IsFunction, Agree, Before, AreBefore}
use Rattle.xc_fixpoint.specs.Steps.{Step, IsMonotone}
use Rattle.xc_fixpoint.specs.Fixpoints.{IsExtremal}
use Rattle.xc_fixpoint.specs.Iterates.{iterate}
use Rattle.xc_fixpoint.proofs.Directions.{are_before_antisymmetric, agree-function, step_keeps_agree}
use Rattle.xc_fixpoint.proofs.Iterates.{iterate_by_induction, settled_is_extremal}
use Rattle.xc_fixpoint.proofs.Settling.{iterates_settle}

-- no two differ at a state
pub extremal_is_unique : (o : Operations) (laws : IsAlgebra o) (up : Bool) (n : ℕ) (step : Step) (f g : ℕ → ℕ) → IsExtremal o up n step f → IsExtremal o up n step g → Agree n f g
extremal_is_unique o laws up n step f g hf hg = are_before_antisymmetric o laws up n f g hf.fixpoint.in_range hg.fixpoint.in_range (hf.first g hg.fixpoint) (hg.first f hf.fixpoint)

module _ (o : Operations) (laws : IsAlgebra o) (up : Bool) (n : ℕ) (step : Step) (monotone : IsMonotone o n step) where
  pub extremal_exists : (f : ℕ → ℕ) × IsExtremal o up n step f
  extremal_exists =
      let settles = iterates_settle o laws up n step monotone in
      (iterate o up step settles.0, settled_is_extremal o laws up n step monotone settles.0 settles.1.settled)

  -- each extremal fixpoint agrees with an iterate that agrees with the next one
  pub extremal_is_settled : (k : ℕ) (f : ℕ → ℕ) → Agree n (iterate o up step k) (iterate o up step (suc k)) → IsExtremal o up n step f → Agree n (iterate o up step k) f
  extremal_is_settled k f same hf = extremal_is_unique o laws up n step (iterate o up step k) f (settled_is_extremal o laws up n step monotone k same) hf

  -- the extremal fixpoint comes before each function that the step takes before itself
  pub extremal_by_induction : (f g : ℕ → ℕ) → IsExtremal o up n step f → IsFunction o n g → AreBefore o up n (step g) g → AreBefore o up n f g
  extremal_by_induction f g hf hg h =
      let settles = iterates_settle o laws up n step monotone in
      let same = extremal_is_settled settles.0 f settles.1.settled hf in
      λ s low. subst (λ (x : ℕ). Before o up x (g s)) (same s low) (iterate_by_induction o laws up n step monotone settles.0 g hg h s low)

  -- it comes before the extremal fixpoint of a step that goes further
  pub extremal_comes_before : (further : Step) (f g : ℕ → ℕ) → ((h : ℕ → ℕ) → IsFunction o n h → AreBefore o up n (step h) (further h)) → IsExtremal o up n step f → IsExtremal o up n further g → AreBefore o up n f g
  extremal_comes_before further f g goes hf hg =
      let within = hg.fixpoint.in_range in
      extremal_by_induction f g hf within (λ s low. subst (λ (x : ℕ). Before o up (step g s) x) (sym (hg.fixpoint.fixed s low)) (goes g within s low))

  -- what agrees with the extremal fixpoint is it
  pub agree-extremal : (f g : ℕ → ℕ) → Agree n f g → IsExtremal o up n step f → IsExtremal o up n step g
  agree-extremal f g same hf =
      let within = agree-function o n f g same hf.fixpoint.in_range in
      let stepped = step_keeps_agree o laws n step monotone f g hf.fixpoint.in_range within same in
      record {
        fixpoint = record { in_range = within; fixed = λ s low. sym (same s low) ∙ (hf.fixpoint.fixed s low ∙ stepped s low) };
        first = λ h is s low. subst (λ (x : ℕ). Before o up x (h s)) (same s low) (hf.first h is s low);
      }
