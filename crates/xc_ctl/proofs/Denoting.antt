-- The nodes of a table denote functions, one each.
use Rattle.std.proofs.Common.{◌≡◌, ℕ, zero, suc, ◌+◌, ◌-◌, ◌<◌, ◌≤◌, true, false, cond, ◌==◌, List, [], ◌∷◌, length, refl, sym, ◌∙◌, subst, arith, inl, inr, ◌⊎◌}
use Rattle.std.proofs.lemmas.Bool.{and_parts, cases_lt}
use Rattle.std.proofs.lemmas.List.Sums.{AllPass-from_list_all}
use Rattle.xc_alg.specs.Products.{product}
use Rattle.xc_alg.proofs.Products.{product_laws}
use Rattle.xc_fixpoint.specs.Functions.{IsFunction, Agree}
use Rattle.xc_fixpoint.specs.Steps.{IsMonotone}
use Rattle.xc_fixpoint.proofs.Fixpoints.{extremal_is_unique, extremal_exists}
use Rattle.xc_fixpoint.proofs.SameSteps.{AreSameSteps, same_steps-fixpoint, same_steps-extremal}
use Rattle.xc_ctl.specs.Frames.{Frame, IsFrame, step_at}
use Rattle.xc_ctl.specs.Tables.{first_child, second_child, has_children_below, are_ordered_from, node_at, is_kind_in, is_table_in}
use Rattle.xc_ctl.specs.Denotations.{Denotes, AreDenotations}
use Rattle.xc_ctl.specs.Laws.{DenotationsExist, DenotationsAreUnique, DenotationsAreInRange, FormulasDenote, FormulasDenoteOnce}
use Rattle.xc_ctl.specs.declared.kind.Kind.{Kind}
use Rattle.xc_ctl.specs.declared.kind.Kind.TheVariants.{Const}
use Rattle.xc_ctl.proofs.KindCases.{which, plain_step}
use Rattle.xc_ctl.proofs.KindCases.Which.{rises, falls, stays}
use Rattle.xc_ctl.proofs.Monotone.{step_monotone, step_same}

-- the children of a node stand before it
pub ordered_at : (k : ℕ) (nodes : List Kind) (i : ℕ) → are_ordered_from k nodes ≡ true → i < length nodes → has_children_below (k + i) (node_at nodes i) ≡ true
ordered_at k [] i h low = absurd (omega arith)
ordered_at k (node ∷ more) zero h low = let e : k + 0 ≡ k = omega arith in rw e (and_parts _ _ h).0
ordered_at k (node ∷ more) (suc i) h low = let e : k + suc i ≡ suc k + i = omega arith in rw e (ordered_at (suc k) more i (and_parts _ _ h).1 (omega arith))

pub ordered_child : (nodes : List Kind) (i : ℕ) → are_ordered_from 0 nodes ≡ true → i < length nodes → has_children_below i (node_at nodes i) ≡ true
ordered_child nodes i h low = let e : 0 + i ≡ i = omega arith in subst (λ (k : ℕ). has_children_below k (node_at nodes i) ≡ true) e (ordered_at 0 nodes i h low)

-- what a node denotes does not change with functions of its children that make the same step
pub denotes_same_steps : (frame : Frame) (kind : Kind) (a b c d f : ℕ → ℕ) → AreSameSteps (product frame.parts) frame.states (step_at frame kind a b) (step_at frame kind c d) → Denotes frame kind a b f → Denotes frame kind c d f
denotes_same_steps frame kind a b c d f same h =
    let o = product frame.parts in
    record {
      fixpoint = same_steps-fixpoint o frame.states (step_at frame kind a b) (step_at frame kind c d) same f h.fixpoint;
      least = λ e. same_steps-extremal o true frame.states (step_at frame kind a b) (step_at frame kind c d) same f (h.least e);
      greatest = λ e. same_steps-extremal o false frame.states (step_at frame kind a b) (step_at frame kind c d) same f (h.greatest e);
    }

-- the same, where these are told by families that agree below the node
pub node_value : (frame : Frame) (nodes : List Kind) (d e : ℕ → ℕ → ℕ) (f : ℕ → ℕ) (i : ℕ) → are_ordered_from 0 nodes ≡ true → i < length nodes → ((c : ℕ) → c < i → Agree frame.states (d c) (e c))
    → Denotes frame (node_at nodes i) (d (first_child (node_at nodes i))) (d (second_child (node_at nodes i))) f
    → Denotes frame (node_at nodes i) (e (first_child (node_at nodes i))) (e (second_child (node_at nodes i))) f
node_value frame nodes d e f i ordered within same h =
    let kind = node_at nodes i in
    denotes_same_steps frame kind (d (first_child kind)) (d (second_child kind)) (e (first_child kind)) (e (second_child kind)) f
    (λ z is. step_same frame i kind d e (ordered_child nodes i ordered within) same z) h

module _ (frame : Frame) (is : IsFrame frame) where
  -- a node denotes no two functions that differ at a state
  pub denotes_once : (kind : Kind) (a b f g : ℕ → ℕ) → Denotes frame kind a b f → Denotes frame kind a b g → Agree frame.states f g
  denotes_once kind a b f g hf hg =
      let o = product frame.parts in
      let laws = product_laws frame.parts is.lawful in
      elim (which kind) [
        | rises least other some ↦ extremal_is_unique o laws true frame.states (step_at frame kind a b) f g (hf.least least) (hg.least least)
        | falls other greatest some ↦ extremal_is_unique o laws false frame.states (step_at frame kind a b) f g (hf.greatest greatest) (hg.greatest greatest)
        | stays other also none ↦ λ s low. hf.fixpoint.fixed s low ∙ plain_step frame kind a b f g none s ∙ sym (hg.fixpoint.fixed s low)
      ]

  -- a monotone step has a function that its node denotes
  pub denotes_some : (kind : Kind) (a b : ℕ → ℕ) → IsMonotone (product frame.parts) frame.states (step_at frame kind a b) → (f : ℕ → ℕ) × Denotes frame kind a b f
  denotes_some kind a b monotone =
      let o = product frame.parts in
      let laws = product_laws frame.parts is.lawful in
      let low = extremal_exists o laws true frame.states (step_at frame kind a b) monotone in
      let high = extremal_exists o laws false frame.states (step_at frame kind a b) monotone in
      elim (which kind) [
        | rises least other some ↦ (low.0, record { fixpoint = low.1.fixpoint; least = λ e. low.1; greatest = λ e. cc })
        | falls other greatest some ↦ (high.0, record { fixpoint = high.1.fixpoint; least = λ e. cc; greatest = λ e. high.1 })
        | stays other also none ↦ (low.0, record { fixpoint = low.1.fixpoint; least = λ e. cc; greatest = λ e. cc })
      ]

  module _ (nodes : List Kind) (ordered : are_ordered_from 0 nodes ≡ true) where
    -- two families of functions that the first nodes denote agree
    agree_below : (d e : ℕ → ℕ → ℕ) → AreDenotations frame nodes d → AreDenotations frame nodes e → (n i : ℕ) → i < n → i < length nodes → Agree frame.states (d i) (e i)
    agree_below d e a b zero i low within = absurd (omega arith)
    agree_below d e a b (suc n) i low within =
        denotes_once (node_at nodes i) (e (first_child (node_at nodes i))) (e (second_child (node_at nodes i))) (d i) (e i)
        (node_value frame nodes d e (d i) i ordered within (λ c below. agree_below d e a b n c (omega arith) (omega arith)) (a.node i within)) (b.node i within)

    pub denotations_agree : (d e : ℕ → ℕ → ℕ) → AreDenotations frame nodes d → AreDenotations frame nodes e → (i : ℕ) → i < length nodes → Agree frame.states (d i) (e i)
    denotations_agree d e a b i within = agree_below d e a b (suc i) i (omega arith) within

pub denotations_are_unique : DenotationsAreUnique
denotations_are_unique frame nodes is ordered in_table d e a b i within = denotations_agree frame is nodes ordered d e a b i within

pub denotations_are_in_range : DenotationsAreInRange
denotations_are_in_range frame nodes is ordered in_table d are i within = (are.node i within).fixpoint.in_range

-- the first nodes denote functions
pub record Below (frame : Frame) (nodes : List Kind) (k : ℕ) (d : ℕ → ℕ → ℕ) : Type 0 where
  pub node : (i : ℕ) → i < k → i < length nodes → Denotes frame (node_at nodes i) (d (first_child (node_at nodes i))) (d (second_child (node_at nodes i))) (d i)

-- one function more
abbrev pub with_function : (ℕ → ℕ → ℕ) → ℕ → (ℕ → ℕ) → ℕ → ℕ → ℕ
with_function d k f i = cond (i == k) f (d i)

eqb_refl : (k : ℕ) → (k == k) ≡ true
eqb_refl k = grind (arith)

eqb_below : (c k : ℕ) → c < k → (c == k) ≡ false
eqb_below c k h = grind (arith)

-- it leaves those before it as they are, and stands in its place
with_old : (d : ℕ → ℕ → ℕ) (k : ℕ) (f : ℕ → ℕ) (c : ℕ) → c < k → d c ≡ with_function d k f c
with_old d k f c h = rw (eqb_below c k h) refl

with_new : (d : ℕ → ℕ → ℕ) (k : ℕ) (f : ℕ → ℕ) → f ≡ with_function d k f k
with_new d k f = rw (eqb_refl k) refl

old_agree : (n : ℕ) (d : ℕ → ℕ → ℕ) (k : ℕ) (f : ℕ → ℕ) (c : ℕ) → c < k → Agree n (d c) (with_function d k f c)
old_agree n d k f c h s low = rw (eqb_below c k h) refl

module _ (frame : Frame) (is : IsFrame frame) (nodes : List Kind) (ordered : are_ordered_from 0 nodes ≡ true) (in_table : is_table_in (product frame.parts).size frame.props nodes ≡ true) where
  -- the step of a node is monotone where the nodes before it denote functions
  pub node_monotone : (d : ℕ → ℕ → ℕ) (i : ℕ) → i < length nodes → ((c : ℕ) → c < i → IsFunction (product frame.parts) frame.states (d c))
      → IsMonotone (product frame.parts) frame.states (step_at frame (node_at nodes i) (d (first_child (node_at nodes i))) (d (second_child (node_at nodes i))))
  node_monotone d i within below =
      step_monotone frame is i (node_at nodes i) d (ordered_child nodes i ordered within) (AllPass-from_list_all (is_kind_in (product frame.parts).size frame.props) nodes in_table i (Const 0) within) below

  -- one node more
  more_at : (k : ℕ) (d : ℕ → ℕ → ℕ) (f : ℕ → ℕ) → Below frame nodes k d → Denotes frame (node_at nodes k) (d (first_child (node_at nodes k))) (d (second_child (node_at nodes k))) f
      → (i : ℕ) → i < length nodes → ((i < k) ⊎ (k ≤ i)) → i < suc k
      → Denotes frame (node_at nodes i) (with_function d k f (first_child (node_at nodes i))) (with_function d k f (second_child (node_at nodes i))) (with_function d k f i)
  more_at k d f h new i within (inl low) top =
      let e = with_function d k f in
      subst (λ (g : ℕ → ℕ). Denotes frame (node_at nodes i) (e (first_child (node_at nodes i))) (e (second_child (node_at nodes i))) g) (with_old d k f i low)
      (node_value frame nodes d e (d i) i ordered within (λ c below. old_agree frame.states d k f c (omega arith)) (h.node i low within))
  more_at k d f h new i within (inr high) top =
      let e = with_function d k f in
      let here : k ≡ i = omega arith in
      subst (λ (j : ℕ). Denotes frame (node_at nodes j) (e (first_child (node_at nodes j))) (e (second_child (node_at nodes j))) (e j)) here
      (subst (λ (g : ℕ → ℕ). Denotes frame (node_at nodes k) (e (first_child (node_at nodes k))) (e (second_child (node_at nodes k))) g) (with_new d k f)
      (node_value frame nodes d e f k ordered (omega arith) (λ c below. old_agree frame.states d k f c below) new))

  -- by whether there is a node of that number
  more_by : (k : ℕ) (d : ℕ → ℕ → ℕ) → Below frame nodes k d → ((k < length nodes) ⊎ (length nodes ≤ k)) → (e : ℕ → ℕ → ℕ) × Below frame nodes (suc k) e
  more_by k d h (inl within) =
      let kind = node_at nodes k in
      let new = denotes_some frame is kind (d (first_child kind)) (d (second_child kind)) (node_monotone d k within (λ c below. (h.node c below (omega arith)).fixpoint.in_range)) in
      (with_function d k new.0, record { node = λ i low here. more_at k d new.0 h new.1 i here (cases_lt i k) low })
  more_by k d h (inr past) = (d, record { node = λ i low here. h.node i (omega arith) here })

  below_all : (k : ℕ) → (d : ℕ → ℕ → ℕ) × Below frame nodes k d
  below_all zero = (λ i s. 0, record { node = λ i low within. absurd (omega arith) })
  below_all (suc k) = let before = below_all k in more_by k before.0 before.1 (cases_lt k (length nodes))

pub denotations_exist : DenotationsExist
denotations_exist frame nodes is ordered in_table =
    let all = below_all frame is nodes ordered in_table (length nodes) in
    (all.0, record { node = λ i within. all.1.node i within within })

pub formulas_denote : FormulasDenote
formulas_denote frame nodes is ordered in_table =
    let all = denotations_exist frame nodes is ordered in_table in
    (all.0 (length nodes - 1), record { functions = all.0; denoted = all.1; last = λ s low. refl })

pub formulas_denote_once : FormulasDenoteOnce
formulas_denote_once frame nodes is ordered in_table some f g hf hg s low =
    hf.last s low ∙ denotations_are_unique frame nodes is ordered in_table hf.functions hg.functions hf.denoted hg.denoted (length nodes - 1) (omega arith) s low ∙ sym (hg.last s low)
