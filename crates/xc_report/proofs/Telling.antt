-- What tables tell of the nodes of a formula over a merged machine, and the text of it.
use Rattle.std.proofs.Common.{◌≡◌, ℕ, zero, suc, ◌+◌, ◌<◌, ◌≤◌, Bool, true, false, cond, List, [], ◌∷◌, ◌++◌, length, map, get_or, slice_index, refl, sym, ◌∙◌, ap, subst, arith}
use Rattle.std.specs.List.{filter, flat_map, range_with_len}
use Rattle.std.proofs.lemmas.List.{length-map, get_or_default}
use Rattle.xc_theory.specs.Lattices.{LatticeData, size}
use Rattle.xc_base.specs.Names.{name_at}
use Rattle.xc_theory.specs.Codes.{digits, AreDigits}
use Rattle.xc_theory.proofs.Codes.{digits_are_in_range}
use Rattle.xc_alg.specs.Products.{product, sizes}
use Rattle.xc_forms.specs.Variables.{sizes_of}
use Rattle.xc_forms.specs.declared.domain.Domain.{Domain}
use Rattle.xc_merge.specs.Merges.{Merge, Viewpoint, nobody, viewpoint_at, parts_of}
use Rattle.xc_merge.specs.Projections.{states_of, row_of}
use Rattle.xc_merge.specs.MergedFrames.{merged_frame, initials_of, is_merged_initial}
use Rattle.xc_ctl.specs.Rounds.{RoundsTable, IsTableFor}
use Rattle.xc_ctl.specs.declared.kind.Kind.{Kind}
use Rattle.xc_report.specs.Reports.{digits_text, element_text}
use Rattle.xc_report.specs.Pieces.{before, digit_text}

-- what a test picks of the numbers from one on is below their end
one_picked : (p : ℕ → Bool) (k n i s : ℕ) (states : List ℕ) (b : Bool) → p k ≡ b → 1 ≤ n → i < length (filter p (k ∷ states)) → s ≡ get_or (filter p (k ∷ states)) i s
    → ((j : ℕ) → j < length (filter p states) → s ≡ get_or (filter p states) j s → s < k + n) → s < k + n
one_picked p k n zero s states true e some low is more = let first : s ≡ k = is ∙ ap (λ (b : Bool). get_or (cond b (k ∷ filter p states) (filter p states)) 0 s) e in omega arith
one_picked p k n (suc i) s states true e some low is more =
    let shorter : i < length (filter p states) = let all : suc i < length (cond true (k ∷ filter p states) (filter p states)) = subst (λ (b : Bool). suc i < length (cond b (k ∷ filter p states) (filter p states))) e low in omega arith in
    more i shorter (is ∙ ap (λ (b : Bool). get_or (cond b (k ∷ filter p states) (filter p states)) (suc i) s) e)
one_picked p k n i s states false e some low is more =
    more i (subst (λ (b : Bool). i < length (cond b (k ∷ filter p states) (filter p states))) e low) (is ∙ ap (λ (b : Bool). get_or (cond b (k ∷ filter p states) (filter p states)) i s) e)

picked_below : (p : ℕ → Bool) (k n i s : ℕ) → i < length (filter p (range_with_len k n)) → s ≡ get_or (filter p (range_with_len k n)) i s → s < k + n
picked_below p k zero i s low is = absurd (omega arith)
picked_below p k (suc n) i s low is =
    one_picked p k (suc n) i s (range_with_len (k + 1) n) (p k) refl (omega arith) low is
    (λ j below at. let h : s < k + 1 + n = picked_below p (k + 1) n j s below at in omega arith)

-- initial states are states
pub initial_below : (m : Merge) (states : List ℕ) (i s : ℕ) → states ≡ initials_of m → i < length states → s ≡ get_or states i s → s < states_of m.plan
unfolding initials_of
initial_below m states i s e low is =
    let h : s < 0 + states_of m.plan = picked_below (is_merged_initial m) 0 (states_of m.plan) i s (subst (λ (xs : List ℕ). i < length xs) e low) (is ∙ ap (λ (xs : List ℕ). get_or xs i s) e) in omega arith

-- a table has the states of the machine, and elements as values
module _ (m : Merge) (nodes : List Kind) (t : RoundsTable) (is : IsTableFor (merged_frame m) nodes t) where
  pub state_there : (s : ℕ) → s < states_of m.plan → s < t.states
  unfolding merged_frame
  state_there s low = omega (arith, is.same_states)

  pub value_there : (i s : ℕ) → i < length nodes → s < states_of m.plan → t.at i s < (product (parts_of m)).size
  unfolding merged_frame
  value_there i s low here = (is.denoted.node i low).fixpoint.in_range s here

-- a value has as many digits as there are parts
digit_count : (ns row : List ℕ) → AreDigits ns row → length row ≡ length ns
digit_count [] [] h = refl
digit_count [] (x ∷ row) h = absurd h
digit_count (n ∷ ns) [] h = absurd h
digit_count (n ∷ ns) (x ∷ row) h = ap suc (digit_count ns row h.1)

pub digits_many : (m : Merge) (element : ℕ) → element < (product (parts_of m)).size → length (digits (sizes (parts_of m)) element) ≡ length m.viewpoints
unfolding product
digits_many m element low =
    digit_count (sizes (parts_of m)) (digits (sizes (parts_of m)) element) (digits_are_in_range (sizes (parts_of m)) element low)
    ∙ length-map (parts_of m) size ∙ length-map m.viewpoints (λ (p : Viewpoint). p.lattice.algebra)

-- a part has as many elements as its viewpoint's lattice
size_at : (found : List Viewpoint) (v : ℕ) → v < length found → slice_index (sizes (map (λ (p : Viewpoint). p.lattice.algebra) found)) v ≡ size (get_or found v nobody).lattice.algebra
size_at [] v low = absurd (omega arith)
size_at (p ∷ found) zero low = refl
size_at (p ∷ found) (suc v) low = size_at found v (omega arith)

pub part_size : (m : Merge) (v : ℕ) → v < length m.viewpoints → slice_index (sizes (parts_of m)) v ≡ size (viewpoint_at m v).lattice.algebra
part_size m v low = size_at m.viewpoints v low

-- so a digit has a name
pub digit_named : (m : Merge) (v digit : ℕ) (parts : List LatticeData) → v < length m.viewpoints → length (viewpoint_at m v).lattice.names ≡ size (viewpoint_at m v).lattice.algebra → parts ≡ parts_of m → digit < slice_index (sizes parts) v → digit < length (viewpoint_at m v).lattice.names
digit_named m v digit parts there named same within =
    let many : slice_index (sizes parts) v ≡ size (viewpoint_at m v).lattice.algebra = ap (λ (ps : List LatticeData). slice_index (sizes ps) v) same ∙ part_size m v there in
    omega arith

-- the names of digits, one after another
digits_from : (found : List Viewpoint) (row : List ℕ) (f : ℕ → List ℕ) (k : ℕ) → length row ≡ length found → ((i : ℕ) → i < length found → f (k + i) ≡ before (k + i) ∷ name_at (get_or found i nobody).lattice.names (slice_index row i))
    → flat_map f (range_with_len k (length found)) ≡ digits_text (before k) (map (λ (p : Viewpoint). p.lattice.names) found) row
digits_from [] row f k same says = refl
digits_from (p ∷ found) [] f k same says = absurd (omega (arith, same))
digits_from (p ∷ found) (x ∷ row) f k same says =
    let here : k + 0 ≡ k = omega arith in
    let later : before (k + 1) ≡ 44 = grind arith in
    let first : f k ≡ before k ∷ name_at p.lattice.names x = subst (λ (j : ℕ). f j ≡ before j ∷ name_at p.lattice.names x) here (says 0 (omega arith)) in
    let more : flat_map f (range_with_len (k + 1) (length found)) ≡ digits_text (before (k + 1)) (map (λ (p : Viewpoint). p.lattice.names) found) row
    = digits_from found row f (k + 1) (omega (arith, same))
    (λ i low. let e : k + suc i ≡ k + 1 + i = omega arith in subst (λ (j : ℕ). f j ≡ before j ∷ name_at (get_or found i nobody).lattice.names (slice_index row i)) e (says (suc i) (omega arith))) in
    ap (λ (t : List ℕ). t ++ flat_map f (range_with_len (k + 1) (length found))) first
    ∙ ap (λ (t : List ℕ). (before k ∷ name_at p.lattice.names x) ++ t) (more ∙ ap (λ (b : ℕ). digits_text b (map (λ (p : Viewpoint). p.lattice.names) found) row) later)

pub digits_said : (m : Merge) (element n : ℕ) (text base : List ℕ) → element < (product (parts_of m)).size → n ≡ length m.viewpoints → text ≡ base ++ flat_map (digit_text m element) (range_with_len 0 n) → text ≡ base ++ element_text m element
digits_said m element n text base low many known =
    let whole : flat_map (digit_text m element) (range_with_len 0 (length m.viewpoints)) ≡ element_text m element
    = digits_from m.viewpoints (digits (sizes (parts_of m)) element) (digit_text m element) 0 (digits_many m element low)
    (λ i here. let e : 0 + i ≡ i = omega arith in ap (λ (j : ℕ). before (0 + i) ∷ name_at (viewpoint_at m j).lattice.names (slice_index (digits (sizes (parts_of m)) element) j)) e) in
    known ∙ ap (λ (k : ℕ). base ++ flat_map (digit_text m element) (range_with_len 0 k)) many ∙ ap (λ (t : List ℕ). base ++ t) whole

-- the places of the variables at a state
pub places_digits : (m : Merge) (vars : List Domain) (s : ℕ) (row : List ℕ) → vars ≡ m.plan.vars → s < states_of m.plan → row ≡ digits (sizes_of vars) s → row ≡ row_of m.plan s
places_digits m vars s row same low e = e ∙ ap (λ (ds : List Domain). digits (sizes_of ds) s) same

pub row_digits : (m : Merge) (s : ℕ) (row : List ℕ) → s < states_of m.plan → row ≡ row_of m.plan s → AreDigits (sizes_of m.plan.vars) row
row_digits m s row low e = subst (λ (r : List ℕ). AreDigits (sizes_of m.plan.vars) r) (sym e) (digits_are_in_range (sizes_of m.plan.vars) s low)

-- an initial state that is read is a state
pub initial_at : (m : Merge) (states : List ℕ) (i : ℕ) → states ≡ initials_of m → i < length states → get_or states i 0 < states_of m.plan
initial_at m states i e low = initial_below m states i (get_or states i 0) e low (get_or_default states i 0 (get_or states i 0) low)
