-- Steps that make the same of each function have the same iterates and the same fixpoints.
use Rattle.std.proofs.Common.{ℕ, zero, suc, Bool, true, refl, sym, ◌∙◌}
use Rattle.xc_alg.specs.Operations.{Operations, IsAlgebra}
use Rattle.xc_fixpoint.specs.Functions.{IsFunction, Agree}
use Rattle.xc_fixpoint.specs.Steps.{Step, IsMonotone}
use Rattle.xc_fixpoint.specs.Fixpoints.{IsFixpoint, IsExtremal}
use Rattle.xc_fixpoint.specs.Iterates.{iterate, Settles}
use Rattle.xc_fixpoint.proofs.Directions.{are_before_transitive, agree-before, agree-function, step_keeps_agree}
use Rattle.xc_fixpoint.proofs.Iterates.{iterate_in_range}

-- at each function they agree
abbrev pub AreSameSteps : Operations → ℕ → Step → Step → Type 0
AreSameSteps o n step other = (f : ℕ → ℕ) → IsFunction o n f → Agree n (step f) (other f)

pub same_steps_turned : (o : Operations) (n : ℕ) (step other : Step) → AreSameSteps o n step other → AreSameSteps o n other step
same_steps_turned o n step other same f within s low = sym (same f within s low)

pub same_steps-fixpoint : (o : Operations) (n : ℕ) (step other : Step) → AreSameSteps o n step other → (f : ℕ → ℕ) → IsFixpoint o n step f → IsFixpoint o n other f
same_steps-fixpoint o n step other same f h = record { in_range = h.in_range; fixed = λ s low. h.fixed s low ∙ same f h.in_range s low }

pub same_steps-extremal : (o : Operations) (up : Bool) (n : ℕ) (step other : Step) → AreSameSteps o n step other → (f : ℕ → ℕ) → IsExtremal o up n step f → IsExtremal o up n other f
same_steps-extremal o up n step other same f h =
    record {
      fixpoint = same_steps-fixpoint o n step other same f h.fixpoint;
      first = λ g is. h.first g (same_steps-fixpoint o n other step (same_steps_turned o n step other same) g is);
    }

module _ (o : Operations) (laws : IsAlgebra o) (n : ℕ) (step other : Step) (same : AreSameSteps o n step other) (monotone : IsMonotone o n step) where
  pub same_steps-monotone : IsMonotone o n other
  same_steps-monotone =
      record {
        in_range = λ f within. agree-function o n (step f) (other f) (same f within) (monotone.in_range f within);
        larger = λ f g hf hg below.
            let sf = monotone.in_range f hf in
            let sg = monotone.in_range g hg in
            let tf = agree-function o n (step f) (other f) (same f hf) sf in
            let tg = agree-function o n (step g) (other g) (same g hg) sg in
            are_before_transitive o laws true n (other f) (step f) (other g) tf sf tg (agree-before o laws true n (other f) (step f) tf (λ s low. sym (same f hf s low)))
            (are_before_transitive o laws true n (step f) (step g) (other g) sf sg tg (monotone.larger f g hf hg below) (agree-before o laws true n (step g) (other g) sg (same g hg)));
      }

  pub same_steps-iterate : (up : Bool) (k : ℕ) → Agree n (iterate o up step k) (iterate o up other k)
  same_steps-iterate up zero s low = refl
  same_steps-iterate up (suc k) s low =
      let within = iterate_in_range o laws up n step monotone k in
      let within' = agree-function o n (iterate o up step k) (iterate o up other k) (same_steps-iterate up k) within in
      step_keeps_agree o laws n step monotone (iterate o up step k) (iterate o up other k) within within' (same_steps-iterate up k) s low
      ∙ same (iterate o up other k) within' s low

  pub same_steps-settles : (up : Bool) (k : ℕ) → Settles o up n step k → Settles o up n other k
  same_steps-settles up k h =
      record {
        settled = λ s low. sym (same_steps-iterate up k s low) ∙ (h.settled s low ∙ same_steps-iterate up (suc k) s low);
        unsettled = λ j low agree. h.unsettled j low (λ s here. same_steps-iterate up j s here ∙ (agree s here ∙ sym (same_steps-iterate up (suc j) s here)));
      }
