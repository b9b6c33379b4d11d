-- How the functions of fixpoints are reached round by round, and tables that tell it for each node of a formula.
use Rattle.std.specs.Prelude.{◌≡◌, ◌<◌, ◌≤◌, ℕ, true, false, List, length}
use Rattle.xc_alg.specs.Products.{product}
use Rattle.xc_fixpoint.specs.Functions.{Agree}
use Rattle.xc_fixpoint.specs.Iterates.{iterate, Settles}
use Rattle.xc_ctl.specs.Frames.{Frame, step_at, is_least, is_greatest, is_fixpoint}
use Rattle.xc_ctl.specs.Tables.{first_child, second_child, node_at, is_table_in}
use Rattle.xc_ctl.specs.Denotations.{AreDenotations}
use Rattle.xc_ctl.specs.declared.kind.Kind.{Kind}

-- A node of that kind, with children that denote a and b, has k rounds: the least number whose iterate agrees with the next one, from
-- the bottom where it is a least fixpoint, from the top where it is a greatest one. A node that is no fixpoint has none.
pub record RoundsOf (frame : Frame) (kind : Kind) (a b : ℕ → ℕ) (k : ℕ) : Type 0 where
  pub rising : is_least kind ≡ true → Settles (product frame.parts) true frame.states (step_at frame kind a b) k
  pub falling : is_greatest kind ≡ true → Settles (product frame.parts) false frame.states (step_at frame kind a b) k
  pub none : is_fixpoint kind ≡ false → k ≡ 0

-- g is the function of the node, which denotes f, at round k: the iterate of that number, or f where it is no fixpoint
pub record IsRound (frame : Frame) (kind : Kind) (a b f : ℕ → ℕ) (k : ℕ) (g : ℕ → ℕ) : Type 0 where
  pub rising : is_least kind ≡ true → Agree frame.states g (iterate (product frame.parts) true (step_at frame kind a b) k)
  pub falling : is_greatest kind ≡ true → Agree frame.states g (iterate (product frame.parts) false (step_at frame kind a b) k)
  pub none : is_fixpoint kind ≡ false → Agree frame.states g f

-- What is told of states and nodes: `at` of a node and a state, the rounds of a node, and `round_at` of a node, a round and a state.
-- What stands for numbers past these says nothing.
pub record RoundsTable : Type 0 where
  pub states : ℕ
  pub nodes : ℕ
  pub at : ℕ → ℕ → ℕ
  pub rounds : ℕ → ℕ
  pub round_at : ℕ → ℕ → ℕ → ℕ

-- The table is one for a frame and a formula, whose constants and propositions the frame has.
pub record IsTableFor (frame : Frame) (nodes : List Kind) (table : RoundsTable) : Type 0 where
  pub in_range : is_table_in (product frame.parts).size frame.props nodes ≡ true
  pub same_states : table.states ≡ frame.states
  pub same_nodes : table.nodes ≡ length nodes
  pub denoted : AreDenotations frame nodes table.at
  pub settled : (i : ℕ) → i < length nodes → RoundsOf frame (node_at nodes i) (table.at (first_child (node_at nodes i))) (table.at (second_child (node_at nodes i))) (table.rounds i)
  pub iterates : (i k : ℕ) → i < length nodes → k ≤ table.rounds i
      → IsRound frame (node_at nodes i) (table.at (first_child (node_at nodes i))) (table.at (second_child (node_at nodes i))) (table.at i) k (table.round_at i k)
