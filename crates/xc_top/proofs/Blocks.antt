-- Two tables that tell the same of a formula have the same block.
use Rattle.std.proofs.Common.{◌≡◌, ℕ, zero, suc, ◌+◌, ◌-◌, ◌<◌, ◌≤◌, Bool, true, false, ◌&&◌, nat_le, List, [], ◌∷◌, ◌++◌, length, refl, ◌∙◌, ap, arith}
use Rattle.std.specs.Prelude.{Option, codes, count_by, fold, cond}
use Rattle.std.specs.Fmt.{decimal}
use Rattle.std.specs.List.{range_with_len, flat_map, filter}
use Rattle.xc_base.specs.Names.{name_at}
use Rattle.std.proofs.lemmas.Bool.{and_parts, leb-true}
use Rattle.xc_theory.specs.Lattices.{LatticeData}
use Rattle.xc_theory.proofs.Chains.{heights_are_unique}
use Rattle.xc_product.specs.Heights.{AreHeights}
use Rattle.xc_merge.specs.Merges.{Merge, name_of, viewpoint_at}
use Rattle.xc_merge.specs.Projections.{states_of}
use Rattle.xc_merge.specs.MergedFrames.{merged_frame, initials_of, is_merged_initial}
use Rattle.xc_ctl.specs.Tables.{is_table, are_ordered_from}
use Rattle.xc_ctl.specs.Rounds.{RoundsTable}
use Rattle.xc_ctl.specs.declared.kind.Kind.{Kind}
use Rattle.xc_report.specs.Reports.{line, formula_text, node_text, value_text, gives, count_text, share_text, values_text, size_text, block_text}
use Rattle.xc_top.proofs.Tables.{TellSame}

-- what a test of a table says of its nodes
pub record IsTable (nodes : List Kind) : Type 0 where
  pub some : 1 ≤ length nodes
  pub few : length nodes ≤ 256
  pub ordered : are_ordered_from 0 nodes ≡ true

-- a table has a node, and its nodes are in order
pub table_parts : (nodes : List Kind) → is_table nodes ≡ true → IsTable nodes
table_parts nodes h =
    let outer = and_parts (nat_le 1 (length nodes) && nat_le (length nodes) 256) (are_ordered_from 0 nodes) h in
    let inner = and_parts (nat_le 1 (length nodes)) (nat_le (length nodes) 256) outer.0 in
    record { some = leb-true 1 (length nodes) inner.0; few = leb-true (length nodes) 256 inner.1; ordered = outer.1 }

-- one list of heights
pub heights_same : (parts : List LatticeData) (hs gs : List ℕ) → AreHeights parts hs → AreHeights parts gs → hs ≡ gs
heights_same [] [] [] a b = refl
heights_same [] [] (g ∷ gs) a b = absurd b
heights_same [] (h ∷ hs) gs a b = absurd a
heights_same (l ∷ parts) [] gs a b = absurd a
heights_same (l ∷ parts) (h ∷ hs) [] a b = absurd b
heights_same (l ∷ parts) (h ∷ hs) (g ∷ gs) a b =
    let first : h ≡ g = heights_are_unique l.order h g a.0 b.0 in
    let more : hs ≡ gs = heights_same parts hs gs a.1 b.1 in
    cc

-- one state more, picked or left out
one_below : (p : ℕ → Bool) (k : ℕ) (states : List ℕ) (f g : ℕ → List ℕ) (b : Bool) → p k ≡ b → f k ≡ g k → flat_map f (filter p states) ≡ flat_map g (filter p states) → flat_map f (filter p (k ∷ states)) ≡ flat_map g (filter p (k ∷ states))
one_below p k states f g true e first more = rw (e, first, more) refl
one_below p k states f g false e first more = rw (e, more) refl

-- functions that agree below a number agree on all that a test picks there
each_below : (p : ℕ → Bool) (k n m : ℕ) (f g : ℕ → List ℕ) → k + n ≤ m → ((s : ℕ) → s < m → f s ≡ g s) → flat_map f (filter p (range_with_len k n)) ≡ flat_map g (filter p (range_with_len k n))
each_below p k zero m f g h same = refl
each_below p k (suc n) m f g h same = one_below p k (range_with_len (k + 1) n) f g (p k) refl (same k (omega arith)) (each_below p (k + 1) n m f g (omega arith) same)

-- tests that agree below a number count the same of what a test picks there
abbrev counted : (ℕ → Bool) → ℕ → ℕ → ℕ
counted f a x = a + cond (f x) 1 0

count_picked : (p : ℕ → Bool) (k start : ℕ) (states : List ℕ) (f g : ℕ → Bool) (b : Bool) → p k ≡ b → f k ≡ g k → ((n : ℕ) → fold (counted f) n (filter p states) ≡ fold (counted g) n (filter p states)) → fold (counted f) start (filter p (k ∷ states)) ≡ fold (counted g) start (filter p (k ∷ states))
count_picked p k start states f g true e first more =
    let next : counted f start k ≡ counted g start k = ap (λ (b : Bool). start + cond b 1 0) first in
    rw e (ap (λ (n : ℕ). fold (counted f) n (filter p states)) next ∙ more (counted g start k))
count_picked p k start states f g false e first more = rw e (more start)

count_below : (p : ℕ → Bool) (k n m start : ℕ) (f g : ℕ → Bool) → k + n ≤ m → ((s : ℕ) → s < m → f s ≡ g s) → fold (counted f) start (filter p (range_with_len k n)) ≡ fold (counted g) start (filter p (range_with_len k n))
count_below p k zero m start f g h same = refl
count_below p k (suc n) m start f g h same = count_picked p k start (range_with_len (k + 1) n) f g (p k) refl (same k (omega arith)) (λ here. count_below p (k + 1) n m here f g (omega arith) same)

-- functions that agree everywhere
each_same : (f g : ℕ → List ℕ) (xs : List ℕ) → ((x : ℕ) → f x ≡ g x) → flat_map f xs ≡ flat_map g xs
each_same f g [] same = refl
each_same f g (x ∷ xs) same = let first = same x in let more = each_same f g xs same in rw (first, more) refl

-- functions that agree at the states have the same lines of values, and the same shares
module _ (marked : Bool) (m : Merge) (f g : ℕ → ℕ) (same : (s : ℕ) → s < states_of m.plan → f s ≡ g s) where
  values_same : flat_map (value_text marked m f) (initials_of m) ≡ flat_map (value_text marked m g) (initials_of m)
  unfolding initials_of
  values_same = each_below (is_merged_initial m) 0 (states_of m.plan) (states_of m.plan) (value_text marked m f) (value_text marked m g) (omega arith) (λ s low. let e : f s ≡ g s = same s low in rw e refl)

  counted_same : (v element : ℕ) → count_by (λ s. gives m v element (f s)) (initials_of m) ≡ count_by (λ s. gives m v element (g s)) (initials_of m)
  unfolding initials_of
  counted_same v element = count_below (is_merged_initial m) 0 (states_of m.plan) (states_of m.plan) 0 (λ s. gives m v element (f s)) (λ s. gives m v element (g s)) (omega arith) (λ s low. let e : f s ≡ g s = same s low in rw e refl)

  counts_same : (v element : ℕ) → count_text m f v element ≡ count_text m g v element
  counts_same v element = ap (λ (n : ℕ). 32 ∷ name_at (viewpoint_at m v).lattice.names element ++ codes "=" ++ decimal n) (counted_same v element)

  share_same : (v : ℕ) → share_text marked m f v ≡ share_text marked m g v
  share_same v = ap (λ (text : List ℕ). line marked (codes "share " ++ name_of m.plan v ++ text)) (each_same (count_text m f v) (count_text m g v) (range_with_len 0 (length (viewpoint_at m v).lattice.names)) (counts_same v))

  told_same : values_text marked m f ≡ values_text marked m g
  told_same =
      ap (λ (text : List ℕ). text ++ flat_map (share_text marked m f) (range_with_len 0 (length m.viewpoints))) values_same
      ∙ ap (λ (text : List ℕ). flat_map (value_text marked m g) (initials_of m) ++ text) (each_same (share_text marked m f) (share_text marked m g) (range_with_len 0 (length m.viewpoints)) share_same)

-- and tables that tell the same rounds have the same lines of them
rounds_same : (marked : Bool) (nodes : List Kind) (t u : RoundsTable) (k n : ℕ) → k + n ≤ length nodes → ((i : ℕ) → i < length nodes → t.rounds i ≡ u.rounds i) → flat_map (node_text marked nodes t) (range_with_len k n) ≡ flat_map (node_text marked nodes u) (range_with_len k n)
rounds_same marked nodes t u k zero h same = refl
rounds_same marked nodes t u k (suc n) h same =
    let first : t.rounds k ≡ u.rounds k = same k (omega arith) in
    let more = rounds_same marked nodes t u (k + 1) n (omega arith) same in
    rw (first, more) refl

same_at_states : (m : Merge) (nodes : List Kind) (t u : RoundsTable) → TellSame (merged_frame m).states (length nodes) t u → TellSame (states_of m.plan) (length nodes) t u
unfolding merged_frame
same_at_states m nodes t u same = same

-- so two tables that tell the same have the same block
pub block_same : (marked : Bool) (m : Merge) (number : ℕ) (nodes : List Kind) (t u : RoundsTable) (size : Option ℕ) → 1 ≤ length nodes → TellSame (merged_frame m).states (length nodes) t u → block_text marked m number nodes t size ≡ block_text marked m number nodes u size
block_same marked m number nodes t u size some tell =
    let same = same_at_states m nodes t u tell in
    let rounds = rounds_same marked nodes t u 0 (length nodes) (omega arith) same.rounds in
    let values = told_same marked m (t.at (length nodes - 1)) (u.at (length nodes - 1)) (λ s low. same.at (length nodes - 1) s (omega arith) low) in
    ap (λ (text : List ℕ). formula_text marked m number nodes ++ text ++ values_text marked m (t.at (length nodes - 1)) ++ size_text marked size) rounds
    ∙ ap (λ (text : List ℕ). formula_text marked m number nodes ++ flat_map (node_text marked nodes u) (range_with_len 0 (length nodes)) ++ text ++ size_text marked size) values
