-- What the writing of a report comes to, item by item.
use Rattle.std.proofs.Common.{◌≡◌, ℕ, zero, suc, ◌+◌, ◌<◌, ◌≤◌, Bool, true, IfOk, List, [], ◌∷◌, ◌++◌, length, map, drop, take, get_or, sum, None, Result, Ok, Err, refl, sym, ◌∙◌, ap, subst, arith}
use Rattle.std.specs.List.{list_all}
use Rattle.std.proofs.lemmas.List.{take_all, length-map, get_or-map}
use Rattle.std.proofs.lemmas.List.Sums.{AllPass-from_list_all}
use Rattle.xc_base.specs.Sinks.{Sunk}
use Rattle.xc_base.specs.declared.memory.Memory.{Memory as NoMemory}
use Rattle.xc_product.specs.Heights.{AreHeights}
use Rattle.xc_merge.specs.Merges.{Merge, viewpoint_at, parts_of}
use Rattle.xc_merge.specs.MergedFrames.{merged_frame}
use Rattle.xc_merged.specs.Tabled.{IsGood}
use Rattle.xc_ctl.specs.Rounds.{RoundsTable, IsTableFor}
use Rattle.xc_ctl.specs.declared.formula.Formula.{Formula}
use Rattle.xc_ctl.specs.declared.kind.Kind.{Kind}
use Rattle.xc_report.specs.Reports.{head_text, block_text}
use Rattle.xc_report.proofs.Lattices.{some_heights}
use Rattle.xc_report.proofs.Machined.{are_named}
use Rattle.xc_lines.specs.declared.halt.Halt.{Halt}
use Rattle.xc_course.specs.Items.{Item, Head, Block, IsHead, IsBlock, IsTextOf}
use Rattle.xc_write.specs.Writing.{WritesOn, IsPut}
use Rattle.xc_write.proofs.Writing.{put_on, nothing_on, then_on, stops_on}
use Rattle.xc_eval.specs.Checking.{blocks_of, report_items}

-- the line of a machine, whose lattices have heights
pub head_is : (marked : Bool) (m : Merge) (result : Result (List ℕ) NoMemory) → ((v : ℕ) → v < length m.viewpoints → IsGood (viewpoint_at m v).lattice) → IfOk result (λ text. (heights : List ℕ) → AreHeights (parts_of m) heights → text ≡ head_text marked m (sum heights)) → IfOk result (IsHead marked m)
head_is marked m (Ok text) good is = let some = some_heights m (are_named m good) in record { heights = some.0; are_heights = some.1; is = is some.0 some.1 }
head_is marked m (Err e) good is = tt

-- the block of a formula, by the table that was made
pub block_is : (marked : Bool) (m : Merge) (number : ℕ) (nodes : List Kind) (table : RoundsTable) (result : Result (List ℕ) NoMemory) → IsTableFor (merged_frame m) nodes table → IfOk result (λ text. text ≡ block_text marked m number nodes table None) → IfOk result (IsBlock marked m number nodes)
block_is marked m number nodes table (Ok text) tells is = record { table = table; tells = tells; is = is }
block_is marked m number nodes table (Err e) tells is = tt

-- an item's text that was made, and then put
pub item_on : (item : Item) (made text : List ℕ) (old now : Sunk) (result : Result (Unit {0}) Halt) → IsPut text old now result → IsTextOf item made → text ≡ made → WritesOn (item ∷ []) old now result
item_on item made text old now result h is same = put_on item text old now result h (subst (λ (t : List ℕ). IsTextOf item t) (sym same) is)

-- a formula at its place in a slice of others
nodes_at : (slice items : List Formula) (i : ℕ) (f : Formula) → slice ≡ items → i < length slice → f ≡ get_or slice i f → (i < length (map (λ (x : Formula). x.nodes) items)) × (f.nodes ≡ get_or (map (λ (x : Formula). x.nodes) items) i f.nodes)
nodes_at slice items i f same low is =
    subst (λ (fs : List Formula). (i < length (map (λ (x : Formula). x.nodes) fs)) × (f.nodes ≡ get_or (map (λ (x : Formula). x.nodes) fs) i f.nodes)) same
    (omega (arith, length-map slice (λ (x : Formula). x.nodes)), ap (λ (x : Formula). x.nodes) is ∙ sym (get_or-map (λ (x : Formula). x.nodes) slice i f f.nodes low))

pub formula_passes : (p : List Kind → Bool) (slice items : List Formula) (i : ℕ) (f : Formula) → slice ≡ items → i < length slice → f ≡ get_or slice i f → list_all p (map (λ (x : Formula). x.nodes) items) ≡ true → p f.nodes ≡ true
formula_passes p slice items i f same low is h =
    let at = nodes_at slice items i f same low is in
    subst (λ (nodes : List Kind). p nodes ≡ true) (sym at.1) (AllPass-from_list_all p (map (λ (x : Formula). x.nodes) items) h i f.nodes at.0)

-- the blocks of formulas, one after another
module _ (marked : Bool) (m : Merge) where
  pub no_block : (formulas : List (List Kind)) (old : Sunk) → WritesOn (blocks_of marked m 1 (take 0 formulas)) old old (Ok tt)
  no_block formulas old = nothing_on old

  blocks_more : (number : ℕ) (formulas : List (List Kind)) (i : ℕ) (nodes : List Kind) → i < length formulas → nodes ≡ get_or formulas i nodes → blocks_of marked m number (take (i + 1) formulas) ≡ blocks_of marked m number (take i formulas) ++ Block marked m (number + i) nodes ∷ []
  blocks_more number [] i nodes low is = absurd (omega arith)
  blocks_more number (first ∷ formulas) zero nodes low is = let e : number + 0 ≡ number = omega arith in rw (is, e) refl
  blocks_more number (first ∷ formulas) (suc i) nodes low is =
      let e : suc i + 1 ≡ suc (i + 1) = omega arith in
      let at : number + suc i ≡ number + 1 + i = omega arith in
      rw (e, at) (ap (λ (l : List Item). Block marked m number first ∷ l) (blocks_more (number + 1) formulas i nodes (omega arith) is))

  blocks_split : (number : ℕ) (formulas : List (List Kind)) (i : ℕ) → i ≤ length formulas → blocks_of marked m number (take i formulas) ++ blocks_of marked m (number + i) (drop i formulas) ≡ blocks_of marked m number formulas
  blocks_split number [] zero low = refl
  blocks_split number [] (suc i) low = absurd (omega arith)
  blocks_split number (first ∷ formulas) zero low = let e : number + 0 ≡ number = omega arith in rw e refl
  blocks_split number (first ∷ formulas) (suc i) low = let e : number + suc i ≡ number + 1 + i = omega arith in rw e (ap (λ (l : List Item). Block marked m number first ∷ l) (blocks_split (number + 1) formulas i (omega arith)))

  module _ (slice items : List Formula) (i : ℕ) (f : Formula) (old mid new : Sunk) (same : slice ≡ items) (low : i < length slice) (is : f ≡ get_or slice i f) (so_far : WritesOn (blocks_of marked m 1 (take i (map (λ (x : Formula). x.nodes) items))) old mid (Ok tt)) where
    abbrev formulas : List (List Kind)
    formulas = map (λ (x : Formula). x.nodes) items

    -- the first ones, and the next one
    one_more : (result : Result (Unit {0}) Halt) → WritesOn (Block marked m (i + 1) f.nodes ∷ []) mid new result → WritesOn (blocks_of marked m 1 (take (i + 1) formulas)) old new result
    one_more result h =
        let at = nodes_at slice items i f same low is in
        let number : i + 1 ≡ 1 + i = omega arith in
        subst (λ (all : List Item). WritesOn all old new result) (sym (blocks_more 1 formulas i f.nodes at.0 at.1))
        (then_on (blocks_of marked m 1 (take i formulas)) (Block marked m (1 + i) f.nodes ∷ []) old mid new tt result so_far (subst (λ (k : ℕ). WritesOn (Block marked m k f.nodes ∷ []) mid new result) number h))

    pub one_block_more : (u : Unit {0}) → WritesOn (Block marked m (i + 1) f.nodes ∷ []) mid new (Ok u) → WritesOn (blocks_of marked m 1 (take (i + 1) formulas)) old new (Ok tt)
    one_block_more u h = one_more (Ok tt) h

    pub one_block_stops : (halt : Halt) → WritesOn (Block marked m (i + 1) f.nodes ∷ []) mid new (Err halt) → WritesOn (blocks_of marked m 1 formulas) old new (Err halt)
    one_block_stops halt h =
        let at = nodes_at slice items i f same low is in
        subst (λ (all : List Item). WritesOn all old new (Err halt)) (blocks_split 1 formulas (i + 1) (omega (arith, at.0)))
        (stops_on (blocks_of marked m 1 (take (i + 1) formulas)) (blocks_of marked m (1 + (i + 1)) (drop (i + 1) formulas)) old new halt (one_more (Err halt) h))

  pub all_blocks : (formulas : List (List Kind)) (i : ℕ) (old new : Sunk) → length formulas ≤ i → WritesOn (blocks_of marked m 1 (take i formulas)) old new (Ok tt) → WritesOn (blocks_of marked m 1 formulas) old new (Ok tt)
  all_blocks formulas i old new past h = subst (λ (l : List (List Kind)). WritesOn (blocks_of marked m 1 l) old new (Ok tt)) (take_all i formulas past) h

  -- the head, and the blocks behind it
  pub head_stops : (formulas : List (List Kind)) (old new : Sunk) (halt : Halt) → WritesOn (Head marked m ∷ []) old new (Err halt) → WritesOn (report_items marked m formulas) old new (Err halt)
  head_stops formulas old new halt h = stops_on (Head marked m ∷ []) (blocks_of marked m 1 formulas) old new halt h

  pub head_then : (formulas : List (List Kind)) (old mid new : Sunk) (x : Unit {0}) (result : Result (Unit {0}) Halt) → WritesOn (Head marked m ∷ []) old mid (Ok x) → WritesOn (blocks_of marked m 1 formulas) mid new result → WritesOn (report_items marked m formulas) old new result
  head_then formulas old mid new x result h k = then_on (Head marked m ∷ []) (blocks_of marked m 1 formulas) old mid new x result h k
