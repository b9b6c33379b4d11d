-- The steps of fixpoints are monotone, also as rows of transitions tell them.
use Rattle.std.proofs.Common.{ℕ, suc, List, [], ◌∷◌, length, slice_index, arith}
use Rattle.xc_alg.specs.Operations.{Operations, IsAlgebra}
use Rattle.xc_fixpoint.specs.Functions.{IsFunction}
use Rattle.xc_fixpoint.specs.Steps.{Step, IsMonotone}
use Rattle.xc_fixpoint.proofs.MonotoneSteps.{monotone_constant, monotone_value, monotone_meet, monotone_join, monotone_joined, monotone_dual}
use Rattle.xc_plain.specs.declared.row.Successor.{Successor}
use Rattle.xc_plain.specs.declared.row.Row.{Row}
use Rattle.xc_plain.specs.declared.row.Row.TheVariants.{Few, Each}
use Rattle.xc_plain.specs.declared.form.Form.{Form}
use Rattle.xc_plain.specs.declared.form.Form.TheVariants.{SomeUntil, EachUntil, Always}
use Rattle.xc_plain.specs.Successors.{AreSuccessors, few_joined, weighed_from, row_joined, IsSafe, AreSafe, row_at, next_by}
use Rattle.xc_plain.specs.Told.{all_next_by, step_by}

module _ (o : Operations) (laws : IsAlgebra o) (n : ℕ) where
  -- what is joined of few successors
  few_monotone : (successors : List Successor) (sum : Step) → AreSuccessors o.size n successors → IsMonotone o n sum → IsMonotone o n (λ z s. few_joined o z (sum z s) successors)
  few_monotone [] sum are h = h
  few_monotone (here ∷ more) sum are h =
      few_monotone more (λ z s. o.join (o.meet here.value (z here.state)) (sum z s))
      (record { states = λ i other low. are.states (suc i) other (omega arith); values = λ i other low. are.values (suc i) other (omega arith) })
      (monotone_join o laws n (λ z s. o.meet here.value (z here.state)) sum
      (monotone_meet o laws n (λ z s. here.value) (λ z s. z here.state)
      (monotone_constant o laws n (λ s. here.value) (λ s low. are.values 0 here (omega arith)))
      (monotone_value o laws n here.state (are.states 0 here (omega arith)))) h)

  -- and of a row
  row_monotone : (row : Row) → IsSafe o.size n row → IsMonotone o n (λ z s. row_joined o z row)
  unfolding weighed_from
  row_monotone (Few successors) safe = few_monotone successors (λ z s. o.bottom) safe (monotone_constant o laws n (λ s. o.bottom) (λ s low. laws.bottom_in_range))
  row_monotone (Each values) safe =
      monotone_joined o laws n (length values) (λ t z s. o.meet (slice_index values t) (z t)) (λ t low.
      monotone_meet o laws n (λ z s. slice_index values t) (λ z s. z t)
      (monotone_constant o laws n (λ s. slice_index values t) (λ s here. safe.range t (omega (arith, safe.count))))
      (monotone_value o laws n t (omega (arith, safe.count))))

  module _ (rows : List Row) (safe : AreSafe o.size n rows) where
    pub next_monotone : IsMonotone o n (next_by o rows)
    next_monotone =
        record {
          in_range = λ z hz s low. (row_monotone (row_at rows s) (safe.each s low)).in_range z hz s low;
          larger = λ z y hz hy h s low. (row_monotone (row_at rows s) (safe.each s low)).larger z y hz hy h s low;
        }

    pub all_next_monotone : IsMonotone o n (all_next_by o rows)
    all_next_monotone = monotone_dual o laws n (next_by o rows) next_monotone

    -- the step of each form
    pub step_by_monotone : (form : Form) (a b : ℕ → ℕ) → IsFunction o n a → IsFunction o n b → IsMonotone o n (step_by o rows form a b)
    step_by_monotone SomeUntil a b first second =
        monotone_join o laws n (λ z. b) (λ z s. o.meet (a s) (next_by o rows z s)) (monotone_constant o laws n b second)
        (monotone_meet o laws n (λ z. a) (next_by o rows) (monotone_constant o laws n a first) next_monotone)
    step_by_monotone EachUntil a b first second =
        monotone_join o laws n (λ z. b) (λ z s. o.meet (a s) (o.meet (all_next_by o rows z s) (next_by o rows z s))) (monotone_constant o laws n b second)
        (monotone_meet o laws n (λ z. a) (λ z s. o.meet (all_next_by o rows z s) (next_by o rows z s)) (monotone_constant o laws n a first)
        (monotone_meet o laws n (all_next_by o rows) (next_by o rows) all_next_monotone next_monotone))
    step_by_monotone Always a b first second =
        monotone_meet o laws n (λ z. a) (next_by o rows) (monotone_constant o laws n a first) next_monotone
