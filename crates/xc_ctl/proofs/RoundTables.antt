-- Each table of nodes has one table of rounds, and the rounds of a node are few.
use Rattle.std.proofs.Common.{◌≡◌, ℕ, ◌*◌, ◌<◌, ◌≤◌, true, false, List, length, refl, sym, ◌∙◌, subst, arith, inl, inr, ◌⊎◌}
use Rattle.std.specs.List.{sum}
use Rattle.std.proofs.lemmas.Bool.{cases_lt}
use Rattle.xc_alg.specs.Products.{product}
use Rattle.xc_alg.proofs.Products.{product_laws}
use Rattle.xc_product.specs.Heights.{AreHeights}
use Rattle.xc_fixpoint.specs.Functions.{Agree}
use Rattle.xc_fixpoint.specs.Steps.{IsMonotone}
use Rattle.xc_fixpoint.specs.Iterates.{iterate}
use Rattle.xc_fixpoint.specs.Heights.{IsHeight}
use Rattle.xc_fixpoint.proofs.Settling.{iterates_settle, settles_once, settles_soon}
use Rattle.xc_fixpoint.proofs.SameSteps.{AreSameSteps, same_steps-iterate, same_steps-settles}
use Rattle.xc_fixpoint.proofs.ProductHeights.{height_of_product}
use Rattle.xc_ctl.specs.Frames.{Frame, IsFrame, step_at}
use Rattle.xc_ctl.specs.Tables.{first_child, second_child, are_ordered_from, node_at, is_table_in}
use Rattle.xc_ctl.specs.Denotations.{AreDenotations}
use Rattle.xc_ctl.specs.Rounds.{RoundsOf, IsRound, RoundsTable, IsTableFor}
use Rattle.xc_ctl.specs.Laws.{TellTheSame, RoundsExist, RoundsAreUnique, RoundsAreFew}
use Rattle.xc_ctl.specs.declared.kind.Kind.{Kind}
use Rattle.xc_ctl.proofs.KindCases.{which}
use Rattle.xc_ctl.proofs.KindCases.Which.{rises, falls, stays}
use Rattle.xc_ctl.proofs.Monotone.{step_same}
use Rattle.xc_ctl.proofs.Denoting.{ordered_child, denotations_agree, denotations_exist, node_monotone}

module _ (frame : Frame) (is : IsFrame frame) (kind : Kind) (a b : ℕ → ℕ) (monotone : IsMonotone (product frame.parts) frame.states (step_at frame kind a b)) where
  -- a node has a number of rounds
  rounds_some : (k : ℕ) × RoundsOf frame kind a b k
  rounds_some =
      let o = product frame.parts in
      let laws = product_laws frame.parts is.lawful in
      let low = iterates_settle o laws true frame.states (step_at frame kind a b) monotone in
      let high = iterates_settle o laws false frame.states (step_at frame kind a b) monotone in
      elim (which kind) [
        | rises least other some ↦ (low.0, record { rising = λ e. low.1; falling = λ e. cc; none = λ e. cc })
        | falls other greatest some ↦ (high.0, record { rising = λ e. cc; falling = λ e. high.1; none = λ e. cc })
        | stays other also none ↦ (0, record { rising = λ e. cc; falling = λ e. cc; none = λ e. refl })
      ]

  -- and a function in each
  round_some : (f : ℕ → ℕ) (k : ℕ) → (g : ℕ → ℕ) × IsRound frame kind a b f k g
  round_some f k =
      let o = product frame.parts in
      elim (which kind) [
        | rises least other some ↦ (iterate o true (step_at frame kind a b) k, record { rising = λ e s low. refl; falling = λ e. cc; none = λ e. cc })
        | falls other greatest some ↦ (iterate o false (step_at frame kind a b) k, record { rising = λ e. cc; falling = λ e s low. refl; none = λ e. cc })
        | stays other also none ↦ (f, record { rising = λ e. cc; falling = λ e. cc; none = λ e s low. refl })
      ]

  -- they are few
  rounds_few : (height k : ℕ) → IsHeight (product frame.parts) height → RoundsOf frame kind a b k → k ≤ frame.states * height
  rounds_few height k high h =
      let o = product frame.parts in
      let laws = product_laws frame.parts is.lawful in
      elim (which kind) [
        | rises least other some ↦ settles_soon o laws true frame.states (step_at frame kind a b) monotone height k high (h.rising least)
        | falls other greatest some ↦ settles_soon o laws false frame.states (step_at frame kind a b) monotone height k high (h.falling greatest)
        | stays other also none ↦ let zero_rounds : k ≡ 0 = h.none none in omega arith
      ]

  module _ (c d : ℕ → ℕ) (same : AreSameSteps (product frame.parts) frame.states (step_at frame kind a b) (step_at frame kind c d)) where
    -- children with which the step is the same give the same rounds
    rounds_same : (j k : ℕ) → RoundsOf frame kind a b j → RoundsOf frame kind c d k → j ≡ k
    rounds_same j k hj hk =
        let o = product frame.parts in
        let laws = product_laws frame.parts is.lawful in
        let first = step_at frame kind a b in
        let second = step_at frame kind c d in
        elim (which kind) [
          | rises least other some ↦ settles_once o true frame.states second j k (same_steps-settles o laws frame.states first second same monotone true j (hj.rising least)) (hk.rising least)
          | falls other greatest some ↦ settles_once o false frame.states second j k (same_steps-settles o laws frame.states first second same monotone false j (hj.falling greatest)) (hk.falling greatest)
          | stays other also none ↦ hj.none none ∙ sym (hk.none none)
        ]

    -- and the same functions in each
    round_same : (f g x y : ℕ → ℕ) (k : ℕ) → Agree frame.states f g → IsRound frame kind a b f k x → IsRound frame kind c d g k y → Agree frame.states x y
    round_same f g x y k agree hx hy =
        let o = product frame.parts in
        let laws = product_laws frame.parts is.lawful in
        let first = step_at frame kind a b in
        let second = step_at frame kind c d in
        elim (which kind) [
          | rises least other some ↦ λ s low. hx.rising least s low ∙ same_steps-iterate o laws frame.states first second same monotone true k s low ∙ sym (hy.rising least s low)
          | falls other greatest some ↦ λ s low. hx.falling greatest s low ∙ same_steps-iterate o laws frame.states first second same monotone false k s low ∙ sym (hy.falling greatest s low)
          | stays other also none ↦ λ s low. hx.none none s low ∙ agree s low ∙ sym (hy.none none s low)
        ]

module _ (frame : Frame) (is : IsFrame frame) (nodes : List Kind) (ordered : are_ordered_from 0 nodes ≡ true) (in_table : is_table_in (product frame.parts).size frame.props nodes ≡ true) where
  -- the step of each node is monotone, of the functions that the nodes denote
  denoted_monotone : (d : ℕ → ℕ → ℕ) → AreDenotations frame nodes d → (i : ℕ) → i < length nodes
      → IsMonotone (product frame.parts) frame.states (step_at frame (node_at nodes i) (d (first_child (node_at nodes i))) (d (second_child (node_at nodes i))))
  denoted_monotone d are i within = node_monotone frame is nodes ordered in_table d i within (λ c below. (are.node c (omega arith)).fixpoint.in_range)

  module _ (d : ℕ → ℕ → ℕ) (are : AreDenotations frame nodes d) where
    -- the rounds of each node
    node_rounds : (i : ℕ) → i < length nodes → (k : ℕ) × RoundsOf frame (node_at nodes i) (d (first_child (node_at nodes i))) (d (second_child (node_at nodes i))) k
    node_rounds i within = rounds_some frame is (node_at nodes i) (d (first_child (node_at nodes i))) (d (second_child (node_at nodes i))) (denoted_monotone d are i within)

    node_round : (i : ℕ) → i < length nodes → (k : ℕ) → (g : ℕ → ℕ) × IsRound frame (node_at nodes i) (d (first_child (node_at nodes i))) (d (second_child (node_at nodes i))) (d i) k g
    node_round i within k = round_some frame is (node_at nodes i) (d (first_child (node_at nodes i))) (d (second_child (node_at nodes i))) (denoted_monotone d are i within) (d i) k

    -- and none past them
    told_rounds : (i : ℕ) → ((i < length nodes) ⊎ (length nodes ≤ i)) → ℕ
    told_rounds i (inl within) = (node_rounds i within).0
    told_rounds i (inr past) = 0

    told_round : (i : ℕ) → ((i < length nodes) ⊎ (length nodes ≤ i)) → ℕ → ℕ → ℕ
    told_round i (inl within) k = (node_round i within k).0
    told_round i (inr past) k = d i

    rounds_told : (i : ℕ) (c : (i < length nodes) ⊎ (length nodes ≤ i)) → i < length nodes → RoundsOf frame (node_at nodes i) (d (first_child (node_at nodes i))) (d (second_child (node_at nodes i))) (told_rounds i c)
    unfolding told_rounds
    rounds_told i (inl within) here = (node_rounds i within).1
    rounds_told i (inr past) here = absurd (omega arith)

    round_told : (i : ℕ) (c : (i < length nodes) ⊎ (length nodes ≤ i)) → i < length nodes → (k : ℕ) → IsRound frame (node_at nodes i) (d (first_child (node_at nodes i))) (d (second_child (node_at nodes i))) (d i) k (told_round i c k)
    unfolding told_round
    round_told i (inl within) here k = (node_round i within k).1
    round_told i (inr past) here k = absurd (omega arith)

    -- a table tells them
    table_some : (table : RoundsTable) × IsTableFor frame nodes table
    table_some = (
      record {
        states = frame.states;
        nodes = length nodes;
        at = d;
        rounds = λ i. told_rounds i (cases_lt i (length nodes));
        round_at = λ i k. told_round i (cases_lt i (length nodes)) k;
      },
      record {
        in_range = in_table;
        same_states = refl;
        same_nodes = refl;
        denoted = are;
        settled = λ i within. rounds_told i (cases_lt i (length nodes)) within;
        iterates = λ i k within low. round_told i (cases_lt i (length nodes)) within k;
      },
    )

  module _ (table other : RoundsTable) (h : IsTableFor frame nodes table) (k : IsTableFor frame nodes other) where
    -- two tables tell the same of nodes and states
    at_same : (i : ℕ) → i < length nodes → Agree frame.states (table.at i) (other.at i)
    at_same i within = denotations_agree frame is nodes ordered table.at other.at h.denoted k.denoted i within

    -- so the steps are the same
    steps_same : (i : ℕ) → i < length nodes
        → AreSameSteps (product frame.parts) frame.states (step_at frame (node_at nodes i) (table.at (first_child (node_at nodes i))) (table.at (second_child (node_at nodes i))))
        (step_at frame (node_at nodes i) (other.at (first_child (node_at nodes i))) (other.at (second_child (node_at nodes i))))
    steps_same i within z function = step_same frame i (node_at nodes i) table.at other.at (ordered_child nodes i ordered within) (λ c below. at_same c (omega arith)) z

    -- and the rounds
    rounds_equal : (i : ℕ) → i < length nodes → table.rounds i ≡ other.rounds i
    rounds_equal i within =
        let kind = node_at nodes i in
        rounds_same frame is kind (table.at (first_child kind)) (table.at (second_child kind)) (denoted_monotone table.at h.denoted i within) (other.at (first_child kind)) (other.at (second_child kind)) (steps_same i within)
        (table.rounds i) (other.rounds i) (h.settled i within) (k.settled i within)

    -- and what is told of each
    round_equal : (i r : ℕ) → i < length nodes → r ≤ table.rounds i → Agree frame.states (table.round_at i r) (other.round_at i r)
    round_equal i r within low =
        let kind = node_at nodes i in
        let low' : r ≤ other.rounds i = subst (λ (n : ℕ). r ≤ n) (rounds_equal i within) low in
        round_same frame is kind (table.at (first_child kind)) (table.at (second_child kind)) (denoted_monotone table.at h.denoted i within) (other.at (first_child kind)) (other.at (second_child kind)) (steps_same i within)
        (table.at i) (other.at i) (table.round_at i r) (other.round_at i r) r (at_same i within) (h.iterates i r within low) (k.iterates i r within low')

    tell_the_same : TellTheSame frame nodes table other
    tell_the_same = record { same_states = h.same_states ∙ sym k.same_states; same_nodes = h.same_nodes ∙ sym k.same_nodes; at = at_same; rounds = rounds_equal; round_at = round_equal }

  -- the rounds of a node
  node_rounds_few : (table : RoundsTable) (heights : List ℕ) → IsTableFor frame nodes table → AreHeights frame.parts heights → (i : ℕ) → i < length nodes → table.rounds i ≤ frame.states * sum heights
  node_rounds_few table heights h high i within =
      let kind = node_at nodes i in
      rounds_few frame is kind (table.at (first_child kind)) (table.at (second_child kind)) (denoted_monotone table.at h.denoted i within) (sum heights) (table.rounds i)
      (height_of_product frame.parts heights is.lawful high) (h.settled i within)

pub rounds_exist : RoundsExist
rounds_exist frame nodes is ordered in_table =
    let denoted = denotations_exist frame nodes is ordered in_table in
    table_some frame is nodes ordered in_table denoted.0 denoted.1

pub rounds_are_unique : RoundsAreUnique
rounds_are_unique frame nodes is ordered in_table table other h k = tell_the_same frame is nodes ordered in_table table other h k

pub rounds_are_few : RoundsAreFew
rounds_are_few frame nodes is ordered in_table table heights h high i within = node_rounds_few frame is nodes ordered in_table table heights h high i within
