-- The rows of all nodes of a formula: of a fixpoint its iterates, of another node its function alone.
use Rattle.std.specs.Prelude.{◌≡◌, ◌<◌, ◌≤◌, ◌-◌, ℕ, List, [], length, slice_index}
use Rattle.std.specs.List.{slice_index_or}
use Rattle.xc_alg.specs.Products.{product}
use Rattle.xc_alg.specs.Tables.{entry}
use Rattle.xc_ctl.specs.Frames.{Frame}
use Rattle.xc_ctl.specs.Denotations.{Denotes}
use Rattle.xc_ctl.specs.Rounds.{RoundsOf, IsRound, RoundsTable}
use Rattle.xc_ctl.specs.Tables.{first_child, second_child, node_at}
use Rattle.xc_ctl.specs.declared.kind.Kind.{Kind}
use Rattle.xc_plain.specs.Settled.{AreRowsOver}

-- the rows of a node, the last of them, and the function that it tells
abbrev pub rows_at : List (List (List ℕ)) → ℕ → List (List ℕ)
rows_at table i = slice_index_or table i []

abbrev pub last_row : List (List ℕ) → List ℕ
last_row rows = slice_index_or rows (length rows - 1) []

abbrev pub function_at : List (List (List ℕ)) → ℕ → ℕ → ℕ
function_at table i = slice_index (last_row (rows_at table i))

-- what a table of such rows tells
abbrev pub rounds_in : ℕ → List (List (List ℕ)) → RoundsTable
rounds_in states table =
    record {
      states = states;
      nodes = length table;
      at = function_at table;
      rounds = λ i. length (rows_at table i) - 1;
      round_at = λ i k. entry (rows_at table i) k;
    }

-- What follows serves the code: no public clause rests on these words.
-- each node has a row
pub record HaveRows (table : List (List (List ℕ))) : Type 0 where
  pub some : (i : ℕ) → i < length table → 0 < length (rows_at table i)

-- the rows of each node have a code below a size for each of n states
pub record AreSafeNodes (size n : ℕ) (table : List (List (List ℕ))) : Type 0 where
  pub each : (i : ℕ) → i < length table → AreRowsOver size n (rows_at table i)

-- each node has a row, and no more than can be counted, and each row a code for each state
pub record IsShaped (states : ℕ) (table : List (List (List ℕ))) : Type 0 where
  pub some : (i : ℕ) → i < length table → 0 < length (rows_at table i)
  pub few : (i : ℕ) → i < length table → length (rows_at table i) ≤ 4294967296
  pub states_all : (i k : ℕ) → i < length table → k < length (rows_at table i) → length (slice_index_or (rows_at table i) k []) ≡ states

-- the rows of a node tell what it denotes, and its rounds, by the functions a and b of its children
pub record TellsNode (frame : Frame) (kind : Kind) (a b : ℕ → ℕ) (rows : List (List ℕ)) : Type 0 where
  pub some : 0 < length rows
  pub few : length rows ≤ 4294967296
  pub shape : AreRowsOver (product frame.parts).size frame.states rows
  pub denotes : Denotes frame kind a b (slice_index (last_row rows))
  pub settled : RoundsOf frame kind a b (length rows - 1)
  pub iterates : (k : ℕ) → k < length rows → IsRound frame kind a b (slice_index (last_row rows)) k (entry rows k)

-- the rows of the first nodes tell this
pub record AreTold (frame : Frame) (nodes : List Kind) (table : List (List (List ℕ))) : Type 0 where
  pub node : (i : ℕ) → i < length table → i < length nodes → TellsNode frame (node_at nodes i) (function_at table (first_child (node_at nodes i))) (function_at table (second_child (node_at nodes i))) (rows_at table i)
