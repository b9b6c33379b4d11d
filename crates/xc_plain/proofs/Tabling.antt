-- The rows of all nodes tell the table of a formula.
use Rattle.std.proofs.Common.{◌≡◌, ℕ, ◌*◌, ◌<◌, ◌≤◌, true, List, [], ◌∷◌, ◌++◌, length, slice_index, sym, ◌∙◌, ap, subst, arith, inl, inr, ◌⊎◌}
use Rattle.std.specs.List.{sum}
use Rattle.std.proofs.lemmas.Bool.{ltb-true, cases_lt, and_parts}
use Rattle.std.proofs.lemmas.List.{get_or_append_left, get_or_push, length_push}
use Rattle.std.proofs.lemmas.List.Sums.{AllPass-from_list_all}
use Rattle.xc_alg.specs.Products.{product}
use Rattle.xc_product.specs.Heights.{AreHeights}
use Rattle.xc_fixpoint.specs.Functions.{Agree}
use Rattle.xc_ctl.specs.Frames.{Frame, IsFrame}
use Rattle.xc_ctl.specs.Denotations.{AreDenotations}
use Rattle.xc_ctl.specs.Rounds.{IsTableFor, RoundsTable}
use Rattle.xc_ctl.specs.Tables.{first_child, second_child, has_children_below, are_ordered_from, is_kind_in, is_table, is_table_in, node_at}
use Rattle.xc_ctl.specs.declared.kind.Kind.{Kind}
use Rattle.xc_ctl.specs.declared.kind.Kind.TheVariants.{Const, Atom, Not, And, Or, Ex, Eu, Au, Eg}
use Rattle.xc_ctl.proofs.Denoting.{ordered_child, denotations_are_unique}
use Rattle.xc_ctl.proofs.RoundTables.{rounds_are_few}
use Rattle.xc_plain.specs.Nodes.{HaveRows, AreSafeNodes, IsShaped, TellsNode, AreTold, rows_at, last_row, function_at, rounds_in}

-- before the first node there is nothing to tell
pub nothing_told : (frame : Frame) (nodes : List Kind) → AreTold frame nodes []
nothing_told frame nodes = record { node = λ i low. absurd (omega arith) }

-- the nodes so far have rows, over the states
pub rows_told : (frame : Frame) (nodes : List Kind) (table : List (List (List ℕ))) → AreTold frame nodes table → length table ≤ length nodes → HaveRows table
rows_told frame nodes table told count = record { some = λ i low. (told.node i low (omega arith)).some }

pub safe_told : (frame : Frame) (nodes : List Kind) (table : List (List (List ℕ))) → AreTold frame nodes table → length table ≤ length nodes → AreSafeNodes (product frame.parts).size frame.states table
safe_told frame nodes table told count = record { each = λ i low. (told.node i low (omega arith)).shape }

-- the children of the next node are among the first nodes, and it speaks of elements and propositions
pub child_first : (nodes : List Kind) (i n : ℕ) → are_ordered_from 0 nodes ≡ true → i < length nodes → n ≡ i → has_children_below n (node_at nodes i) ≡ true
child_first nodes i n h low e = rw e (ordered_child nodes i h low)

pub kind_first : (size props i : ℕ) (nodes : List Kind) → is_table_in size props nodes ≡ true → i < length nodes → is_kind_in size props (node_at nodes i) ≡ true
kind_first size props i nodes h low = AllPass-from_list_all (is_kind_in size props) nodes h i (Const 0) low

-- what a node tells, of other functions that are the same for its children
moved : (frame : Frame) (kind : Kind) (a b c d : ℕ → ℕ) (rows : List (List ℕ)) → a ≡ c → b ≡ d → TellsNode frame kind a b rows → TellsNode frame kind c d rows
moved frame kind a b c d rows first second h = subst (λ (f : ℕ → ℕ). TellsNode frame kind f d rows) first (subst (λ (f : ℕ → ℕ). TellsNode frame kind a f rows) second h)

pub same_node : (frame : Frame) (k : ℕ) (kind : Kind) (d e : ℕ → ℕ → ℕ) (rows : List (List ℕ)) → has_children_below k kind ≡ true → ((c : ℕ) → c < k → d c ≡ e c)
    → TellsNode frame kind (d (first_child kind)) (d (second_child kind)) rows → TellsNode frame kind (e (first_child kind)) (e (second_child kind)) rows
same_node frame k (Const c) d e rows h same told =
    record {
      some = told.some;
      few = told.few;
      shape = told.shape;
      denotes = record { fixpoint = record { in_range = told.denotes.fixpoint.in_range; fixed = told.denotes.fixpoint.fixed }; least = λ x. absurd (cc); greatest = λ x. absurd (cc) };
      settled = record { rising = λ x. absurd (cc); falling = λ x. absurd (cc); none = told.settled.none };
      iterates = λ j low. record { rising = λ x. absurd (cc); falling = λ x. absurd (cc); none = (told.iterates j low).none };
    }
same_node frame k (Atom p) d e rows h same told =
    record {
      some = told.some;
      few = told.few;
      shape = told.shape;
      denotes = record { fixpoint = record { in_range = told.denotes.fixpoint.in_range; fixed = told.denotes.fixpoint.fixed }; least = λ x. absurd (cc); greatest = λ x. absurd (cc) };
      settled = record { rising = λ x. absurd (cc); falling = λ x. absurd (cc); none = told.settled.none };
      iterates = λ j low. record { rising = λ x. absurd (cc); falling = λ x. absurd (cc); none = (told.iterates j low).none };
    }
same_node frame k (Not i) d e rows h same told = let first = ltb-true i k h in moved frame (Not i) (d i) (d 0) (e i) (e 0) rows (same i first) (same 0 (omega arith)) told
same_node frame k (And i j) d e rows h same told = let both = and_parts _ _ h in moved frame (And i j) (d i) (d j) (e i) (e j) rows (same i (ltb-true i k both.0)) (same j (ltb-true j k both.1)) told
same_node frame k (Or i j) d e rows h same told = let both = and_parts _ _ h in moved frame (Or i j) (d i) (d j) (e i) (e j) rows (same i (ltb-true i k both.0)) (same j (ltb-true j k both.1)) told
same_node frame k (Ex i) d e rows h same told = let first = ltb-true i k h in moved frame (Ex i) (d i) (d 0) (e i) (e 0) rows (same i first) (same 0 (omega arith)) told
same_node frame k (Eu i j) d e rows h same told = let both = and_parts _ _ h in moved frame (Eu i j) (d i) (d j) (e i) (e j) rows (same i (ltb-true i k both.0)) (same j (ltb-true j k both.1)) told
same_node frame k (Au i j) d e rows h same told = let both = and_parts _ _ h in moved frame (Au i j) (d i) (d j) (e i) (e j) rows (same i (ltb-true i k both.0)) (same j (ltb-true j k both.1)) told
same_node frame k (Eg i) d e rows h same told = let first = ltb-true i k h in moved frame (Eg i) (d i) (d 0) (e i) (e 0) rows (same i first) (same 0 (omega arith)) told

-- a table with the rows of one node more
old_rows : (table : List (List (List ℕ))) (new : List (List ℕ)) (i : ℕ) → i < length table → rows_at (table ++ new ∷ []) i ≡ rows_at table i
old_rows table new i low = get_or_append_left table (new ∷ []) [] i low

old_function : (table : List (List (List ℕ))) (new : List (List ℕ)) (i : ℕ) → i < length table → function_at table i ≡ function_at (table ++ new ∷ []) i
old_function table new i low = ap (λ (rows : List (List ℕ)). slice_index (last_row rows)) (sym (old_rows table new i low))

more_told : (frame : Frame) (nodes : List Kind) (table : List (List (List ℕ))) (new : List (List ℕ)) → are_ordered_from 0 nodes ≡ true → AreTold frame nodes table
    → TellsNode frame (node_at nodes (length table)) (function_at table (first_child (node_at nodes (length table)))) (function_at table (second_child (node_at nodes (length table)))) new
    → (i : ℕ) → i < length (table ++ new ∷ []) → i < length nodes → ((i < length table) ⊎ (length table ≤ i))
    → TellsNode frame (node_at nodes i) (function_at (table ++ new ∷ []) (first_child (node_at nodes i))) (function_at (table ++ new ∷ []) (second_child (node_at nodes i))) (rows_at (table ++ new ∷ []) i)
more_told frame nodes table new ordered told tells i low within (inl before) =
    same_node frame i (node_at nodes i) (function_at table) (function_at (table ++ new ∷ [])) (rows_at (table ++ new ∷ []) i) (ordered_child nodes i ordered within) (λ c below. old_function table new c (omega arith))
    (subst (TellsNode frame (node_at nodes i) (function_at table (first_child (node_at nodes i))) (function_at table (second_child (node_at nodes i)))) (sym (old_rows table new i before)) (told.node i before within))
more_told frame nodes table new ordered told tells i low within (inr here) =
    let last : length table ≡ i = omega (arith, length_push table new) in
    let now = subst (λ (j : ℕ). TellsNode frame (node_at nodes j) (function_at table (first_child (node_at nodes j))) (function_at table (second_child (node_at nodes j))) new) last tells in
    same_node frame i (node_at nodes i) (function_at table) (function_at (table ++ new ∷ [])) (rows_at (table ++ new ∷ []) i) (ordered_child nodes i ordered within) (λ c below. old_function table new c (omega arith))
    (subst (TellsNode frame (node_at nodes i) (function_at table (first_child (node_at nodes i))) (function_at table (second_child (node_at nodes i)))) (sym (get_or_push table new [] i last)) now)

pub told_more : (frame : Frame) (nodes : List Kind) (table read pushed : List (List (List ℕ))) (new : List (List ℕ)) (i : ℕ) → are_ordered_from 0 nodes ≡ true → AreTold frame nodes table → length table ≡ i → read ≡ table
    → TellsNode frame (node_at nodes i) (function_at read (first_child (node_at nodes i))) (function_at read (second_child (node_at nodes i))) new → pushed ≡ table ++ new ∷ [] → AreTold frame nodes pushed
told_more frame nodes table read pushed new i ordered told count same tells e =
    let seen = subst (λ (some : List (List (List ℕ))). TellsNode frame (node_at nodes i) (function_at some (first_child (node_at nodes i))) (function_at some (second_child (node_at nodes i))) new) same tells in
    let now = subst (λ (j : ℕ). TellsNode frame (node_at nodes j) (function_at table (first_child (node_at nodes j))) (function_at table (second_child (node_at nodes j))) new) (sym count) seen in
    rw e (record { node = λ j low within. more_told frame nodes table new ordered told now j low within (cases_lt j (length table)) })

-- all nodes told make the table
pub shaped : (frame : Frame) (nodes : List Kind) (table : List (List (List ℕ))) (states : ℕ) → AreTold frame nodes table → length table ≡ length nodes → states ≡ frame.states → IsShaped states table
shaped frame nodes table states told count e =
    record {
      some = λ i low. (told.node i low (omega arith)).some;
      few = λ i low. (told.node i low (omega arith)).few;
      states_all = λ i k low within. ((told.node i low (omega arith)).shape.each k within).count ∙ sym e;
    }

pub table_told : (frame : Frame) (nodes : List Kind) (table : List (List (List ℕ))) (states : ℕ) → is_table_in (product frame.parts).size frame.props nodes ≡ true → AreTold frame nodes table → length table ≡ length nodes → states ≡ frame.states
    → IsTableFor frame nodes (rounds_in states table)
table_told frame nodes table states in_range told count e =
    record {
      in_range = in_range;
      same_states = e;
      same_nodes = count;
      denoted = record { node = λ i low. (told.node i (omega arith) low).denotes };
      settled = λ i low. (told.node i (omega arith) low).settled;
      iterates = λ i k low within.
          let here = told.node i (omega arith) low in
          let some = here.some in
          here.iterates k (omega arith);
    }

-- what follows for a table that a formula has
pub unique_told : (frame : Frame) (nodes : List Kind) (table : RoundsTable) → IsFrame frame → are_ordered_from 0 nodes ≡ true → IsTableFor frame nodes table
    → (d : ℕ → ℕ → ℕ) → AreDenotations frame nodes d → (i : ℕ) → i < length nodes → Agree frame.states (d i) (table.at i)
unique_told frame nodes table is ordered told d are i low = denotations_are_unique frame nodes is ordered told.in_range d table.at are told.denoted i low

pub few_told : (frame : Frame) (nodes : List Kind) (table : RoundsTable) → IsFrame frame → are_ordered_from 0 nodes ≡ true → IsTableFor frame nodes table
    → (heights : List ℕ) → AreHeights frame.parts heights → (i : ℕ) → i < length nodes → table.rounds i ≤ frame.states * sum heights
few_told frame nodes table is ordered told heights are i low = rounds_are_few frame nodes is ordered told.in_range table heights told are i low

-- a formula's nodes are in order
pub ordered_in : (nodes : List Kind) → is_table nodes ≡ true → are_ordered_from 0 nodes ≡ true
ordered_in nodes h = (and_parts _ _ h).1

-- the table that is made of the rows of all nodes
pub solved_table : (frame : Frame) (nodes read : List Kind) (table : List (List (List ℕ))) (states : ℕ) (made : RoundsTable) → read ≡ nodes → is_table_in (product frame.parts).size frame.props nodes ≡ true → AreTold frame read table → length table ≡ length read → states ≡ frame.states
    → made ≡ rounds_in states table → IsTableFor frame nodes made
solved_table frame nodes read table states made same in_range told count e is =
    subst (IsTableFor frame nodes) (sym is)
    (table_told frame nodes table states in_range (subst (λ (some : List Kind). AreTold frame some table) same told) (count ∙ ap length same) e)
