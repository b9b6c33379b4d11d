-- What the rows of a node tell, by the rows of its children.
use Rattle.std.proofs.Common.{◌≡◌, ℕ, ◌-◌, ◌<◌, ◌≤◌, Bool, true, false, ◌&&◌, nat_lt, List, [], ◌∷◌, length, slice_index, refl, sym, ◌∙◌, ap, subst, arith}
use Rattle.std.proofs.lemmas.Bool.{ltb-true, and_parts}
use Rattle.std.proofs.lemmas.Nat.{mul-le}
use Rattle.xc_theory.specs.Lattices.{LatticeData}
use Rattle.xc_alg.specs.Operations.{Operations, IsAlgebra}
use Rattle.xc_alg.specs.Products.{product}
use Rattle.xc_alg.specs.Tables.{entry}
use Rattle.xc_alg.proofs.Products.{product_laws}
use Rattle.xc_fixpoint.specs.Functions.{IsFunction, Agree}
use Rattle.xc_fixpoint.specs.Steps.{Step, IsMonotone}
use Rattle.xc_fixpoint.specs.Fixpoints.{IsExtremal}
use Rattle.xc_fixpoint.specs.Iterates.{iterate, Settles}
use Rattle.xc_fixpoint.specs.Lists.{values}
use Rattle.xc_fixpoint.proofs.Lists.{values_in_list}
use Rattle.xc_fixpoint.proofs.SameSteps.{AreSameSteps, same_steps-monotone, same_steps-iterate, same_steps-settles}
use Rattle.xc_fixpoint.proofs.Iterates.{settled_is_extremal}
use Rattle.xc_fixpoint.proofs.Settling.{unsettled_within_size}
use Rattle.xc_fixpoint.proofs.Fixpoints.{agree-extremal}
use Rattle.xc_ctl.specs.Frames.{Frame, IsFrame, some_next, step_at, is_least, is_greatest, is_fixpoint}
use Rattle.xc_ctl.specs.Tables.{first_child, second_child, has_children_below}
use Rattle.xc_ctl.specs.declared.kind.Kind.{Kind}
use Rattle.xc_ctl.specs.declared.kind.Kind.TheVariants.{Eu, Au, Eg}
use Rattle.xc_ctl.proofs.Monotone.{next_joined}
use Rattle.xc_plain.specs.declared.row.Row.{Row}
use Rattle.xc_plain.specs.declared.form.Form.{Form}
use Rattle.xc_plain.specs.declared.form.Form.TheVariants.{SomeUntil, EachUntil, Always}
use Rattle.xc_plain.specs.Successors.{IsRow, weighed_from, AreSafe, AreRowsOf, next_by}
use Rattle.xc_plain.specs.Told.{step_by}
use Rattle.xc_plain.specs.Settled.{AreRounds}
use Rattle.xc_plain.specs.Nodes.{HaveRows, AreSafeNodes, TellsNode, rows_at, last_row, function_at}
use Rattle.xc_plain.proofs.Rising.{step_by_monotone}

-- a node that a test finds has a row
pub node_there : (i : ℕ) (table : List (List (List ℕ))) → HaveRows table → nat_lt i (length table) ≡ true → 0 < length (rows_at table i)
node_there i table have h = have.some i (ltb-true i (length table) h)

-- and its last row is one for the states
pub function_row : (size n i : ℕ) (table : List (List (List ℕ))) (read : List ℕ) → HaveRows table → AreSafeNodes size n table → nat_lt i (length table) ≡ true → read ≡ last_row (rows_at table i) → IsRow size n read
function_row size n i table read have are h e =
    let there = ltb-true i (length table) h in
    rw e ((are.each i there).each (length (rows_at table i) - 1) (omega (arith, have.some i there)))

-- a row, and the rows of transitions, in the words of the algebra
pub row_in_parts : (p q : List LatticeData) (n : ℕ) (row other : List ℕ) → p ≡ q → IsRow (product q).size n row → IsRow (product q).size n other → IsRow (product p).size (length other) row
row_in_parts p q n row other e is there =
    subst (λ (k : ℕ). IsRow (product p).size k row) (sym there.count) (subst (λ (parts : List LatticeData). IsRow (product parts).size n row) (sym e) is)

pub safe_rows : (frame : Frame) (rows : List Row) → AreRowsOf frame rows → AreSafe (product frame.parts).size frame.states rows
safe_rows frame rows are = record { count = are.count; each = λ s low. (are.each s low).safe }

pub safe_in_parts : (frame : Frame) (p : List LatticeData) (rows : List Row) (n : ℕ) → p ≡ frame.parts → AreRowsOf frame rows → n ≡ frame.states → AreSafe (product p).size n rows
safe_in_parts frame p rows n e are count =
    subst (λ (k : ℕ). AreSafe (product p).size k rows) (sym count) (subst (λ (parts : List LatticeData). AreSafe (product parts).size frame.states rows) (sym e) (safe_rows frame rows are))

pub told_value : (p q : List LatticeData) (m n : ℕ) (f : Operations → ℕ → ℕ) (row : List ℕ) → p ≡ q → m ≡ n → row ≡ values m (f (product p)) → Agree n (slice_index row) (f (product q))
told_value p q m n f row e count made =
    values_in_list n (f (product q)) row (made ∙ (ap (λ (k : ℕ). values k (f (product p))) count ∙ ap (λ (parts : List LatticeData). values n (f (product parts))) e))

-- the rows of transitions tell what holds at some next state
pub next_told : (frame : Frame) (is : IsFrame frame) (rows : List Row) → AreRowsOf frame rows → (f : ℕ → ℕ) → IsFunction (product frame.parts) frame.states f → Agree frame.states (next_by (product frame.parts) rows f) (some_next frame f)
unfolding weighed_from
next_told frame is rows are f within s low = (are.each s low).told f within ∙ sym (next_joined frame is f s low within)

-- a fixpoint, by its rounds
module _ (frame : Frame) (is : IsFrame frame) (up : Bool) (step : Step) (kind : Kind) (a b : ℕ → ℕ) (monotone : IsMonotone (product frame.parts) frame.states step)
    (same : AreSameSteps (product frame.parts) frame.states step (step_at frame kind a b)) (rows : List (List ℕ)) (rounds : AreRounds (product frame.parts) up frame.states step rows) where
  other_monotone : IsMonotone (product frame.parts) frame.states (step_at frame kind a b)
  other_monotone = same_steps-monotone (product frame.parts) (product_laws frame.parts is.lawful) frame.states step (step_at frame kind a b) same monotone

  other_iterate : (k : ℕ) → k < length rows → Agree frame.states (entry rows k) (iterate (product frame.parts) up (step_at frame kind a b) k)
  other_iterate k low s here = rounds.iterates.same k low s here ∙ same_steps-iterate (product frame.parts) (product_laws frame.parts is.lawful) frame.states step (step_at frame kind a b) same monotone up k s here

  other_settles : Settles (product frame.parts) up frame.states (step_at frame kind a b) (length rows - 1)
  other_settles = same_steps-settles (product frame.parts) (product_laws frame.parts is.lawful) frame.states step (step_at frame kind a b) same monotone up (length rows - 1) rounds.settles

  last_is_extremal : IsExtremal (product frame.parts) up frame.states (step_at frame kind a b) (slice_index (last_row rows))
  last_is_extremal =
      let o = product frame.parts in
      let laws = product_laws frame.parts is.lawful in
      agree-extremal o laws up frame.states (step_at frame kind a b) other_monotone (iterate o up (step_at frame kind a b) (length rows - 1)) (slice_index (last_row rows))
      (λ s here. sym (other_iterate (length rows - 1) (omega (arith, rounds.some)) s here))
      (settled_is_extremal o laws up frame.states (step_at frame kind a b) other_monotone (length rows - 1) other_settles.settled)

-- where it is the least
pub least_told : (frame : Frame) (is : IsFrame frame) (step : Step) (kind : Kind) (a b : ℕ → ℕ) → IsMonotone (product frame.parts) frame.states step → AreSameSteps (product frame.parts) frame.states step (step_at frame kind a b)
    → (rows : List (List ℕ)) → AreRounds (product frame.parts) true frame.states step rows → length rows ≤ 4294967296 → is_greatest kind ≡ false → is_fixpoint kind ≡ true → TellsNode frame kind a b rows
least_told frame is step kind a b monotone same rows rounds few other fixed =
    let last = last_is_extremal frame is true step kind a b monotone same rows rounds in
    record {
      some = rounds.some;
      few = few;
      shape = rounds.iterates.shape;
      denotes = record { fixpoint = last.fixpoint; least = λ h. last; greatest = λ h. absurd (cc) };
      settled = record { rising = λ h. other_settles frame is true step kind a b monotone same rows rounds; falling = λ h. absurd (cc); none = λ h. absurd (cc) };
      iterates = λ k low. record { rising = λ h. other_iterate frame is true step kind a b monotone same rows rounds k low; falling = λ h. absurd (cc); none = λ h. absurd (cc) };
    }

-- and where it is the greatest
pub greatest_told : (frame : Frame) (is : IsFrame frame) (step : Step) (kind : Kind) (a b : ℕ → ℕ) → IsMonotone (product frame.parts) frame.states step → AreSameSteps (product frame.parts) frame.states step (step_at frame kind a b)
    → (rows : List (List ℕ)) → AreRounds (product frame.parts) false frame.states step rows → length rows ≤ 4294967296 → is_least kind ≡ false → is_fixpoint kind ≡ true → TellsNode frame kind a b rows
greatest_told frame is step kind a b monotone same rows rounds few other fixed =
    let last = last_is_extremal frame is false step kind a b monotone same rows rounds in
    record {
      some = rounds.some;
      few = few;
      shape = rounds.iterates.shape;
      denotes = record { fixpoint = last.fixpoint; least = λ h. absurd (cc); greatest = λ h. last };
      settled = record { rising = λ h. absurd (cc); falling = λ h. other_settles frame is false step kind a b monotone same rows rounds; none = λ h. absurd (cc) };
      iterates = λ k low. record { rising = λ h. absurd (cc); falling = λ h. other_iterate frame is false step kind a b monotone same rows rounds k low; none = λ h. absurd (cc) };
    }

-- the three kinds of fixpoints
module _ (frame : Frame) (is : IsFrame frame) (rows : List Row) (are : AreRowsOf frame rows) (a b : ℕ → ℕ) (first : IsFunction (product frame.parts) frame.states a) (second : IsFunction (product frame.parts) frame.states b) where
  pub form_monotone : (form : Form) → IsMonotone (product frame.parts) frame.states (step_by (product frame.parts) rows form a b)
  form_monotone form = step_by_monotone (product frame.parts) (product_laws frame.parts is.lawful) frame.states rows (safe_rows frame rows are) form a b first second

  negated : (f : ℕ → ℕ) → IsFunction (product frame.parts) frame.states f → IsFunction (product frame.parts) frame.states (λ t. (product frame.parts).negation (f t))
  negated f within s low = (product_laws frame.parts is.lawful).negation_in_range (f s) (within s low)

  pub some_until_told : (i j : ℕ) (iterates : List (List ℕ)) → AreRounds (product frame.parts) true frame.states (step_by (product frame.parts) rows SomeUntil a b) iterates → length iterates ≤ 4294967296 → TellsNode frame (Eu i j) a b iterates
  some_until_told i j iterates rounds few =
      least_told frame is (step_by (product frame.parts) rows SomeUntil a b) (Eu i j) a b (form_monotone SomeUntil)
      (λ f within s low. ap (λ (x : ℕ). (product frame.parts).join (b s) ((product frame.parts).meet (a s) x)) (next_told frame is rows are f within s low))
      iterates rounds few refl refl

  pub each_until_told : (i j : ℕ) (iterates : List (List ℕ)) → AreRounds (product frame.parts) true frame.states (step_by (product frame.parts) rows EachUntil a b) iterates → length iterates ≤ 4294967296 → TellsNode frame (Au i j) a b iterates
  each_until_told i j iterates rounds few =
      least_told frame is (step_by (product frame.parts) rows EachUntil a b) (Au i j) a b (form_monotone EachUntil)
      (λ f within s low.
      ap (λ (x : ℕ). (product frame.parts).join (b s) ((product frame.parts).meet (a s) ((product frame.parts).meet ((product frame.parts).negation x) (next_by (product frame.parts) rows f s))))
      (next_told frame is rows are (λ t. (product frame.parts).negation (f t)) (negated f within) s low)
      ∙ ap (λ (x : ℕ). (product frame.parts).join (b s) ((product frame.parts).meet (a s) ((product frame.parts).meet ((product frame.parts).negation (some_next frame (λ t. (product frame.parts).negation (f t)) s)) x)))
      (next_told frame is rows are f within s low))
      iterates rounds few refl refl

  pub always_told : (i : ℕ) (other : ℕ → ℕ) (iterates : List (List ℕ)) → AreRounds (product frame.parts) false frame.states (step_by (product frame.parts) rows Always a b) iterates → length iterates ≤ 4294967296 → TellsNode frame (Eg i) a other iterates
  always_told i other iterates rounds few =
      greatest_told frame is (step_by (product frame.parts) rows Always a b) (Eg i) a other (form_monotone Always)
      (λ f within s low. ap ((product frame.parts).meet (a s)) (next_told frame is rows are f within s low))
      iterates rounds few refl refl

-- the rounds can be counted
pub rounds_fit : (o : Operations) (laws : IsAlgebra o) (up : Bool) (n : ℕ) (step : Step) (monotone : IsMonotone o n step) (rows : List (List ℕ)) → AreRounds o up n step rows → n ≤ 4096 → o.size ≤ 4096 → length rows ≤ 4294967296
rounds_fit o laws up n step monotone rows rounds few small =
    omega (arith, unsettled_within_size o laws up n step monotone (length rows - 1) rounds.settles.unsettled, mul-le n o.size 4096 4096 few small)

-- rounds in the words of the frame
pub rounds_in_parts : (p q : List LatticeData) (up : Bool) (m n : ℕ) (rows : List Row) (form : Form) (a b : ℕ → ℕ) (iterates : List (List ℕ)) → p ≡ q → m ≡ n → AreRounds (product p) up m (step_by (product p) rows form a b) iterates
    → AreRounds (product q) up n (step_by (product q) rows form a b) iterates
rounds_in_parts p q up m n rows form a b iterates e count rounds =
    subst (λ (k : ℕ). AreRounds (product q) up k (step_by (product q) rows form a b) iterates) count (subst (λ (parts : List LatticeData). AreRounds (product parts) up m (step_by (product parts) rows form a b) iterates) e rounds)

pub rounds_few : (frame : Frame) (p : List LatticeData) (rows : List Row) (up : Bool) (form : Form) (left right : List ℕ) (iterates : List (List ℕ)) → IsFrame frame → p ≡ frame.parts → (product p).size ≤ 4096 → frame.states ≤ 4096 → AreRowsOf frame rows
    → IsRow (product frame.parts).size frame.states left → IsRow (product frame.parts).size frame.states right → AreRounds (product p) up (length rows) (step_by (product p) rows form (slice_index left) (slice_index right)) iterates → length iterates ≤ 4294967296
rounds_few frame p rows up form left right iterates is e small few are first second rounds =
    rounds_fit (product frame.parts) (product_laws frame.parts is.lawful) up frame.states (step_by (product frame.parts) rows form (slice_index left) (slice_index right))
    (form_monotone frame is rows are (slice_index left) (slice_index right) first.range second.range form) iterates
    (rounds_in_parts p frame.parts up (length rows) frame.states rows form (slice_index left) (slice_index right) iterates e are.count rounds) few
    (subst (λ (parts : List LatticeData). (product parts).size ≤ 4096) e small)

-- what a node of a known kind tells, by the last rows of its children
pub arm_told : (frame : Frame) (table : List (List (List ℕ))) (kind known : Kind) (left right : List ℕ) (rows : List (List ℕ)) → kind ≡ known → left ≡ last_row (rows_at table (first_child known)) → right ≡ last_row (rows_at table (second_child known))
    → TellsNode frame known (slice_index left) (slice_index right) rows → TellsNode frame kind (function_at table (first_child kind)) (function_at table (second_child kind)) rows
arm_told frame table kind known left right rows e first second told =
    subst (λ (k : Kind). TellsNode frame k (function_at table (first_child k)) (function_at table (second_child k)) rows) (sym e)
    (subst (λ (xs : List ℕ). TellsNode frame known (slice_index xs) (function_at table (second_child known)) rows) first
    (subst (λ (ys : List ℕ). TellsNode frame known (slice_index left) (slice_index ys) rows) second told))

-- the arms of fixpoints
module _ (frame : Frame) (is : IsFrame frame) (rows : List Row) (are : AreRowsOf frame rows) (table : List (List (List ℕ))) (have : HaveRows table) (safe : AreSafeNodes (product frame.parts).size frame.states table) (kind : Kind)
    (children : has_children_below (length table) kind ≡ true) where
  two_there : (i j : ℕ) → (nat_lt i (length table) && nat_lt j (length table)) ≡ true → (left right : List ℕ) → left ≡ last_row (rows_at table i) → right ≡ last_row (rows_at table j)
      → IsRow (product frame.parts).size frame.states left × IsRow (product frame.parts).size frame.states right
  two_there i j h left right first second =
      let both = and_parts _ _ h in
      (function_row (product frame.parts).size frame.states i table left have safe both.0 first, function_row (product frame.parts).size frame.states j table right have safe both.1 second)

  pub some_until_arm : (i j : ℕ) (left right : List ℕ) (iterates : List (List ℕ)) → kind ≡ Eu i j → left ≡ last_row (rows_at table i) → right ≡ last_row (rows_at table j)
      → AreRounds (product frame.parts) true frame.states (step_by (product frame.parts) rows SomeUntil (slice_index left) (slice_index right)) iterates → length iterates ≤ 4294967296
      → TellsNode frame kind (function_at table (first_child kind)) (function_at table (second_child kind)) iterates
  some_until_arm i j left right iterates e first second rounds few =
      let h = subst (λ (k : Kind). has_children_below (length table) k ≡ true) e children in
      let there = two_there i j h left right first second in
      arm_told frame table kind (Eu i j) left right iterates e first second
      (some_until_told frame is rows are (slice_index left) (slice_index right) there.0.range there.1.range i j iterates rounds few)

  pub each_until_arm : (i j : ℕ) (left right : List ℕ) (iterates : List (List ℕ)) → kind ≡ Au i j → left ≡ last_row (rows_at table i) → right ≡ last_row (rows_at table j)
      → AreRounds (product frame.parts) true frame.states (step_by (product frame.parts) rows EachUntil (slice_index left) (slice_index right)) iterates → length iterates ≤ 4294967296
      → TellsNode frame kind (function_at table (first_child kind)) (function_at table (second_child kind)) iterates
  each_until_arm i j left right iterates e first second rounds few =
      let h = subst (λ (k : Kind). has_children_below (length table) k ≡ true) e children in
      let there = two_there i j h left right first second in
      arm_told frame table kind (Au i j) left right iterates e first second
      (each_until_told frame is rows are (slice_index left) (slice_index right) there.0.range there.1.range i j iterates rounds few)

  pub always_arm : (i : ℕ) (codes : List ℕ) (iterates : List (List ℕ)) → kind ≡ Eg i → codes ≡ last_row (rows_at table i)
      → AreRounds (product frame.parts) false frame.states (step_by (product frame.parts) rows Always (slice_index codes) (slice_index codes)) iterates → length iterates ≤ 4294967296
      → TellsNode frame kind (function_at table (first_child kind)) (function_at table (second_child kind)) iterates
  always_arm i codes iterates e first rounds few =
      let h = subst (λ (k : Kind). has_children_below (length table) k ≡ true) e children in
      let there = function_row (product frame.parts).size frame.states i table codes have safe h first in
      arm_told frame table kind (Eg i) codes (last_row (rows_at table 0)) iterates e first refl
      (always_told frame is rows are (slice_index codes) (slice_index codes) there.range there.range i (function_at table 0) iterates rounds few)
