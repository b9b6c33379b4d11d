-- What formulas mean on a frame: for each node a function from states to elements.
use Rattle.std.specs.Prelude.{◌≡◌, ◌<◌, ◌-◌, ℕ, true, List, length}
use Rattle.xc_alg.specs.Products.{product}
use Rattle.xc_fixpoint.specs.Functions.{Agree}
use Rattle.xc_fixpoint.specs.Fixpoints.{IsFixpoint, IsLeastFixpoint, IsGreatestFixpoint}
use Rattle.xc_ctl.specs.Frames.{Frame, step_at, is_least, is_greatest}
use Rattle.xc_ctl.specs.Tables.{first_child, second_child, node_at}
use Rattle.xc_ctl.specs.declared.kind.Kind.{Kind}

-- A node of that kind denotes f where its children denote a and b: at each state f has an element, which is what the step makes of
-- it. Where more functions are so, it is the least of all of them, or the greatest, by the kind.
pub record Denotes (frame : Frame) (kind : Kind) (a b f : ℕ → ℕ) : Type 0 where
  pub fixpoint : IsFixpoint (product frame.parts) frame.states (step_at frame kind a b) f
  pub least : is_least kind ≡ true → IsLeastFixpoint (product frame.parts) frame.states (step_at frame kind a b) f
  pub greatest : is_greatest kind ≡ true → IsGreatestFixpoint (product frame.parts) frame.states (step_at frame kind a b) f

-- each node i denotes d i, given what its children denote
pub record AreDenotations (frame : Frame) (nodes : List Kind) (d : ℕ → ℕ → ℕ) : Type 0 where
  pub node : (i : ℕ) → i < length nodes → Denotes frame (node_at nodes i) (d (first_child (node_at nodes i))) (d (second_child (node_at nodes i))) (d i)

-- a formula denotes f: what its last node denotes
pub record IsDenoted (frame : Frame) (nodes : List Kind) (f : ℕ → ℕ) : Type 0 where
  pub functions : ℕ → ℕ → ℕ
  pub denoted : AreDenotations frame nodes functions
  pub last : Agree frame.states f (functions (length nodes - 1))
