-- What follows from the definitions, as statements that public functions carry.
use Rattle.std.specs.Prelude.{◌≡◌, ◌<◌, ◌≤◌, ◌*◌, ℕ, true, List, length}
use Rattle.std.specs.List.{sum}
use Rattle.xc_alg.specs.Products.{product}
use Rattle.xc_fixpoint.specs.Functions.{IsFunction, Agree}
use Rattle.xc_product.specs.Heights.{AreHeights}
use Rattle.xc_ctl.specs.Trees.{Tree}
use Rattle.xc_ctl.specs.Tables.{nodes_of, are_ordered_from, is_table_in}
use Rattle.xc_ctl.specs.TableTrees.{formula_of}
use Rattle.xc_ctl.specs.Frames.{Frame, IsFrame}
use Rattle.xc_ctl.specs.Denotations.{AreDenotations, IsDenoted}
use Rattle.xc_ctl.specs.Rounds.{RoundsTable, IsTableFor}
use Rattle.xc_ctl.specs.declared.kind.Kind.{Kind}

-- the table of a tree stands for that tree
abbrev pub TablesStandForTrees : Type 0
TablesStandForTrees = (tree : Tree) → formula_of (nodes_of tree) ≡ tree

-- a law of the nodes of every table that is in range on every frame
abbrev pub OfTables : (Frame → List Kind → Type 0) → Type 0
OfTables Law = (frame : Frame) (nodes : List Kind) → IsFrame frame → are_ordered_from 0 nodes ≡ true → is_table_in (product frame.parts).size frame.props nodes ≡ true → Law frame nodes

-- they denote functions
abbrev pub DenotationsExist : Type 0
DenotationsExist = OfTables (λ frame nodes. (d : ℕ → ℕ → ℕ) × AreDenotations frame nodes d)

-- and no two that differ at a state
abbrev pub DenotationsAreUnique : Type 0
DenotationsAreUnique = OfTables (λ frame nodes. (d e : ℕ → ℕ → ℕ) → AreDenotations frame nodes d → AreDenotations frame nodes e → (i : ℕ) → i < length nodes → Agree frame.states (d i) (e i))

-- their values are elements
abbrev pub DenotationsAreInRange : Type 0
DenotationsAreInRange = OfTables (λ frame nodes. (d : ℕ → ℕ → ℕ) → AreDenotations frame nodes d → (i : ℕ) → i < length nodes → IsFunction (product frame.parts) frame.states (d i))

-- so a formula, which has a last node, denotes a function and no two that differ at a state
abbrev pub FormulasDenote : Type 0
FormulasDenote = OfTables (λ frame nodes. (f : ℕ → ℕ) × IsDenoted frame nodes f)

abbrev pub FormulasDenoteOnce : Type 0
FormulasDenoteOnce = OfTables (λ frame nodes. 1 ≤ length nodes → (f g : ℕ → ℕ) → IsDenoted frame nodes f → IsDenoted frame nodes g → Agree frame.states f g)

-- there is a table of rounds
abbrev pub RoundsExist : Type 0
RoundsExist = OfTables (λ frame nodes. (table : RoundsTable) × IsTableFor frame nodes table)

-- two of them tell the same
pub record TellTheSame (frame : Frame) (nodes : List Kind) (table other : RoundsTable) : Type 0 where
  pub same_states : table.states ≡ other.states
  pub same_nodes : table.nodes ≡ other.nodes
  pub at : (i : ℕ) → i < length nodes → Agree frame.states (table.at i) (other.at i)
  pub rounds : (i : ℕ) → i < length nodes → table.rounds i ≡ other.rounds i
  pub round_at : (i k : ℕ) → i < length nodes → k ≤ table.rounds i → Agree frame.states (table.round_at i k) (other.round_at i k)

abbrev pub RoundsAreUnique : Type 0
RoundsAreUnique = OfTables (λ frame nodes. (table other : RoundsTable) → IsTableFor frame nodes table → IsTableFor frame nodes other → TellTheSame frame nodes table other)

-- no node has more rounds than each state could rise by all steps of a longest chain
abbrev pub RoundsAreFew : Type 0
RoundsAreFew =
    OfTables (λ frame nodes. (table : RoundsTable) (heights : List ℕ) → IsTableFor frame nodes table → AreHeights frame.parts heights → (i : ℕ) → i < length nodes → table.rounds i ≤ frame.states * sum heights)
