-- Tables of what formulas denote: there is one for each formula, and two of them tell the same.
use Rattle.std.proofs.Common.{◌≡◌, ℕ, ◌<◌, true, ◌&&◌, nat_le, List, length}
use Rattle.std.proofs.lemmas.Bool.{and_parts}
use Rattle.xc_alg.specs.Products.{product}
use Rattle.xc_ctl.specs.Frames.{Frame, IsFrame}
use Rattle.xc_ctl.specs.Tables.{is_table, is_table_in, are_ordered_from}
use Rattle.xc_ctl.proofs.RoundTables.{rounds_exist, rounds_are_unique}
use Rattle.xc_ctl.specs.Rounds.{RoundsTable, IsTableFor}
use Rattle.xc_ctl.specs.declared.kind.Kind.{Kind}

-- two tables tell the same of the nodes at the states
pub record TellSame (states nodes : ℕ) (t u : RoundsTable) : Type 0 where
  pub at : (i s : ℕ) → i < nodes → s < states → t.at i s ≡ u.at i s
  pub rounds : (i : ℕ) → i < nodes → t.rounds i ≡ u.rounds i

-- a table of nodes in range over a frame
pub record IsFormula (frame : Frame) (nodes : List Kind) : Type 0 where
  pub framed : IsFrame frame
  pub ordered : is_table nodes ≡ true
  pub within : is_table_in (product frame.parts).size frame.props nodes ≡ true

ordered_nodes : (nodes : List Kind) → is_table nodes ≡ true → are_ordered_from 0 nodes ≡ true
ordered_nodes nodes h = (and_parts (nat_le 1 (length nodes) && nat_le (length nodes) 256) (are_ordered_from 0 nodes) h).1

pub tables_tell_same : (frame : Frame) (nodes : List Kind) (t u : RoundsTable) → IsFormula frame nodes → IsTableFor frame nodes t → IsTableFor frame nodes u → TellSame frame.states (length nodes) t u
tables_tell_same frame nodes t u is a b =
    let same = rounds_are_unique frame nodes is.framed (ordered_nodes nodes is.ordered) is.within t u a b in
    record { at = λ i s low here. same.at i low s here; rounds = same.rounds }

pub some_table : (frame : Frame) (nodes : List Kind) → IsFormula frame nodes → (table : RoundsTable) × IsTableFor frame nodes table
some_table frame nodes is = rounds_exist frame nodes is.framed (ordered_nodes nodes is.ordered) is.within
