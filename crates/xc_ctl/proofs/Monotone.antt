-- The step of each kind is monotone, and functions that agree at the states are stepped to the same.
use Rattle.std.proofs.Common.{◌≡◌, ℕ, suc, ◌+◌, ◌<◌, ◌≤◌, true, map, zero, refl, sym, ◌∙◌, ap, arith}
use Rattle.std.specs.List.{range_with_len}
use Rattle.std.proofs.lemmas.Bool.{and_parts, ltb-true}
use Rattle.xc_alg.specs.Operations.{Operations, IsAlgebra}
use Rattle.xc_alg.specs.Products.{product, join_codes}
use Rattle.xc_alg.specs.Bounds.{AreElements, joined}
use Rattle.xc_alg.proofs.Products.{product_laws, digitwise_joins}
use Rattle.xc_fixpoint.specs.Functions.{IsFunction, Agree}
use Rattle.xc_fixpoint.specs.Steps.{Step, IsMonotone}
use Rattle.xc_fixpoint.proofs.MonotoneSteps.{monotone_constant, monotone_value, monotone_meet, monotone_join, monotone_joined, monotone_dual}
use Rattle.xc_fixpoint.proofs.SameSteps.{same_steps-monotone}
use Rattle.xc_ctl.specs.Frames.{Frame, IsFrame, weighed, some_next, all_next, all_and_some_next, step_at}
use Rattle.xc_ctl.specs.Tables.{first_child, second_child, has_children_below, is_kind_in}
use Rattle.xc_ctl.specs.declared.kind.Kind.{Kind}
use Rattle.xc_ctl.specs.declared.kind.Kind.TheVariants.{Const, Atom, Not, And, Or, Ex, Eu, Au, Eg}

-- the values of functions that agree, of n states from k on
same_list : (n k m : ℕ) (f g : ℕ → ℕ) → k + n ≤ m → ((t : ℕ) → t < m → f t ≡ g t) → map f (range_with_len k n) ≡ map g (range_with_len k n)
same_list zero k m f g h same = refl
same_list (suc n) k m f g h same = let first : f k ≡ g k = same k (omega arith) in let more = same_list n (k + 1) m f g (omega arith) same in rw (first, more) refl

-- functions that agree have the same value at some next state, and at all
pub next_same : (frame : Frame) (f g : ℕ → ℕ) (s : ℕ) → Agree frame.states f g → some_next frame f s ≡ some_next frame g s
unfolding some_next
next_same frame f g s same =
    ap (join_codes frame.parts)
    (same_list frame.states 0 frame.states (λ t. (product frame.parts).meet (frame.relation s t) (f t)) (λ t. (product frame.parts).meet (frame.relation s t) (g t)) (omega arith)
    (λ t low. ap ((product frame.parts).meet (frame.relation s t)) (same t low)))

-- the meets of the elements of two functions are elements
elements_met : (o : Operations) (laws : IsAlgebra o) (r f : ℕ → ℕ) (n k m : ℕ) → k + n ≤ m → ((t : ℕ) → t < m → r t < o.size) → ((t : ℕ) → t < m → f t < o.size) → AreElements o.size (map (λ t. o.meet (r t) (f t)) (range_with_len k n))
elements_met o laws r f zero k m h a b = tt
elements_met o laws r f (suc n) k m h a b = (laws.meet_in_range (r k) (f k) (a k (omega arith)) (b k (omega arith)), elements_met o laws r f n (k + 1) m (omega arith) a b)

module _ (frame : Frame) (is : IsFrame frame) where
  pub weighed_are_elements : (f : ℕ → ℕ) (s : ℕ) → s < frame.states → IsFunction (product frame.parts) frame.states f → AreElements (product frame.parts).size (weighed frame f s)
  weighed_are_elements f s here within =
      elements_met (product frame.parts) (product_laws frame.parts is.lawful) (frame.relation s) f frame.states 0 frame.states (omega arith) (λ t low. is.steps s t here low) within

  -- what holds at some next state is the join of the weighed values
  pub next_joined : (f : ℕ → ℕ) (s : ℕ) → s < frame.states → IsFunction (product frame.parts) frame.states f → some_next frame f s ≡ joined (product frame.parts) (weighed frame f s)
  unfolding some_next product
  next_joined f s here within = digitwise_joins frame.parts (weighed frame f s) is.lawful (weighed_are_elements f s here within)

  -- the meet of a transition with the value behind it, as a step
  weighed_monotone : (t : ℕ) → t < frame.states → IsMonotone (product frame.parts) frame.states (λ z s. (product frame.parts).meet (frame.relation s t) (z t))
  weighed_monotone t here =
      let o = product frame.parts in
      let laws = product_laws frame.parts is.lawful in
      monotone_meet o laws frame.states (λ z s. frame.relation s t) (λ z s. z t)
      (monotone_constant o laws frame.states (λ s. frame.relation s t) (λ s low. is.steps s t low here))
      (monotone_value o laws frame.states t here)

  -- so is what holds at some next state
  pub some_next_monotone : IsMonotone (product frame.parts) frame.states (some_next frame)
  some_next_monotone =
      let o = product frame.parts in
      let laws = product_laws frame.parts is.lawful in
      let joins : Step = λ z s. joined o (weighed frame z s) in
      same_steps-monotone o laws frame.states joins (some_next frame)
      (λ f within s low. sym (next_joined f s low within))
      (monotone_joined o laws frame.states frame.states (λ t z s. o.meet (frame.relation s t) (z t)) weighed_monotone)

  -- at all, and at all of which there is one
  pub all_next_monotone : IsMonotone (product frame.parts) frame.states (all_next frame)
  all_next_monotone = monotone_dual (product frame.parts) (product_laws frame.parts is.lawful) frame.states (some_next frame) some_next_monotone

  pub all_and_some_next_monotone : IsMonotone (product frame.parts) frame.states (all_and_some_next frame)
  all_and_some_next_monotone = monotone_meet (product frame.parts) (product_laws frame.parts is.lawful) frame.states (all_next frame) (some_next frame) all_next_monotone some_next_monotone

  -- where a holds here and something behind, or else b
  module _ (a b : ℕ → ℕ) (first : IsFunction (product frame.parts) frame.states a) where
    globally_monotone : (next : Step) → IsMonotone (product frame.parts) frame.states next → IsMonotone (product frame.parts) frame.states (λ z s. (product frame.parts).meet (a s) (next z s))
    globally_monotone next h =
        let o = product frame.parts in
        let laws = product_laws frame.parts is.lawful in
        monotone_meet o laws frame.states (λ z. a) next (monotone_constant o laws frame.states a first) h

    until_monotone : (next : Step) → IsFunction (product frame.parts) frame.states b → IsMonotone (product frame.parts) frame.states next
        → IsMonotone (product frame.parts) frame.states (λ z s. (product frame.parts).join (b s) ((product frame.parts).meet (a s) (next z s)))
    until_monotone next second h =
        let o = product frame.parts in
        let laws = product_laws frame.parts is.lawful in
        monotone_join o laws frame.states (λ z. b) (λ z s. o.meet (a s) (next z s)) (monotone_constant o laws frame.states b second) (globally_monotone next h)

  -- a value that does not read the function
  constant : (f : ℕ → ℕ) → IsFunction (product frame.parts) frame.states f → IsMonotone (product frame.parts) frame.states (λ z. f)
  constant f within = monotone_constant (product frame.parts) (product_laws frame.parts is.lawful) frame.states f within

  -- the step of a node whose children denote functions
  pub step_monotone : (k : ℕ) (kind : Kind) (d : ℕ → ℕ → ℕ) → has_children_below k kind ≡ true → is_kind_in (product frame.parts).size frame.props kind ≡ true
      → ((c : ℕ) → c < k → IsFunction (product frame.parts) frame.states (d c)) → IsMonotone (product frame.parts) frame.states (step_at frame kind (d (first_child kind)) (d (second_child kind)))
  step_monotone k (Const c) d h in_kind within = constant (λ s. c) (λ s low. ltb-true c (product frame.parts).size in_kind)
  step_monotone k (Atom p) d h in_kind within = constant (frame.prop p) (λ s low. is.values p s (ltb-true p frame.props in_kind) low)
  step_monotone k (Not i) d h in_kind within =
      constant (λ s. (product frame.parts).negation (d i s)) (λ s low. (product_laws frame.parts is.lawful).negation_in_range (d i s) (within i (ltb-true i k h) s low))
  step_monotone k (And i j) d h in_kind within =
      let both = and_parts _ _ h in
      constant (λ s. (product frame.parts).meet (d i s) (d j s))
      (λ s low. (product_laws frame.parts is.lawful).meet_in_range (d i s) (d j s) (within i (ltb-true i k both.0) s low) (within j (ltb-true j k both.1) s low))
  step_monotone k (Or i j) d h in_kind within =
      let both = and_parts _ _ h in
      constant (λ s. (product frame.parts).join (d i s) (d j s))
      (λ s low. (product_laws frame.parts is.lawful).join_in_range (d i s) (d j s) (within i (ltb-true i k both.0) s low) (within j (ltb-true j k both.1) s low))
  step_monotone k (Ex i) d h in_kind within = constant (some_next frame (d i)) (some_next_monotone.in_range (d i) (within i (ltb-true i k h)))
  step_monotone k (Eu i j) d h in_kind within =
      let both = and_parts _ _ h in
      until_monotone (d i) (d j) (within i (ltb-true i k both.0)) (some_next frame) (within j (ltb-true j k both.1)) some_next_monotone
  step_monotone k (Au i j) d h in_kind within =
      let both = and_parts _ _ h in
      until_monotone (d i) (d j) (within i (ltb-true i k both.0)) (all_and_some_next frame) (within j (ltb-true j k both.1)) all_and_some_next_monotone
  step_monotone k (Eg i) d h in_kind within = globally_monotone (d i) (d i) (within i (ltb-true i k h)) (some_next frame) some_next_monotone

-- steps of children that agree at the states agree
pub step_same : (frame : Frame) (k : ℕ) (kind : Kind) (d e : ℕ → ℕ → ℕ) → has_children_below k kind ≡ true → ((c : ℕ) → c < k → Agree frame.states (d c) (e c))
    → (z : ℕ → ℕ) → Agree frame.states (step_at frame kind (d (first_child kind)) (d (second_child kind)) z) (step_at frame kind (e (first_child kind)) (e (second_child kind)) z)
step_same frame k (Const c) d e h same z s low = refl
step_same frame k (Atom p) d e h same z s low = refl
step_same frame k (Not i) d e h same z s low = ap (product frame.parts).negation (same i (ltb-true i k h) s low)
step_same frame k (And i j) d e h same z s low =
    let both = and_parts _ _ h in
    ap (λ (x : ℕ). (product frame.parts).meet x (d j s)) (same i (ltb-true i k both.0) s low) ∙ ap ((product frame.parts).meet (e i s)) (same j (ltb-true j k both.1) s low)
step_same frame k (Or i j) d e h same z s low =
    let both = and_parts _ _ h in
    ap (λ (x : ℕ). (product frame.parts).join x (d j s)) (same i (ltb-true i k both.0) s low) ∙ ap ((product frame.parts).join (e i s)) (same j (ltb-true j k both.1) s low)
step_same frame k (Ex i) d e h same z s low = next_same frame (d i) (e i) s (same i (ltb-true i k h))
step_same frame k (Eu i j) d e h same z s low =
    let both = and_parts _ _ h in
    ap (λ (x : ℕ). (product frame.parts).join x ((product frame.parts).meet (d i s) (some_next frame z s))) (same j (ltb-true j k both.1) s low)
    ∙ ap (λ (x : ℕ). (product frame.parts).join (e j s) ((product frame.parts).meet x (some_next frame z s))) (same i (ltb-true i k both.0) s low)
step_same frame k (Au i j) d e h same z s low =
    let both = and_parts _ _ h in
    ap (λ (x : ℕ). (product frame.parts).join x ((product frame.parts).meet (d i s) (all_and_some_next frame z s))) (same j (ltb-true j k both.1) s low)
    ∙ ap (λ (x : ℕ). (product frame.parts).join (e j s) ((product frame.parts).meet x (all_and_some_next frame z s))) (same i (ltb-true i k both.0) s low)
step_same frame k (Eg i) d e h same z s low = ap (λ (x : ℕ). (product frame.parts).meet x (some_next frame z s)) (same i (ltb-true i k h) s low)
