-- The pairs of elements that are below each other span the order of a lattice, and heights add up.
use Rattle.std.proofs.Common.{◌≡◌, ℕ, zero, suc, ◌+◌, ◌<◌, ◌≤◌, Bool, true, false, List, [], ◌∷◌, ◌++◌, length, get_or, drop, inl, inr, refl, sym, ap, subst, ◌∙◌, arith}
use Rattle.std.specs.List.{sum, Contains}
use Rattle.std.proofs.lemmas.Bool.{cases_eq, both_ways}
use Rattle.std.proofs.lemmas.List.Elements.{Contains-append_left, Contains-append_right, Contains-append_cases, All-weaker, All-contains_itself}
use Rattle.std.proofs.lemmas.List.Sums.{sum_by-cons}
use Rattle.std.proofs.Math.Logic.{∥∥₁_elim, ∥∥₁_prop}
use Rattle.std.proofs.Math.Nat.{ℕ_set}
use Rattle.xc_theory.specs.Orders.{IsAntisymmetric, Leads, IsSpannedBy}
use Rattle.xc_theory.specs.Chains.{IsHeight}
use Rattle.xc_theory.specs.Lattices.{LatticeData, IsLawful, size, below}
use Rattle.xc_theory.proofs.Orders.{Reaches-step, spanned_once}
use Rattle.xc_theory.proofs.Chains.{heights_are_unique}
use Rattle.xc_alg.specs.AnyTables.{lattice_in_any}
use Rattle.xc_alg.specs.declared.any_table.AnyTable.{AnyTable}
use Rattle.xc_order.specs.declared.order.Pair.{Pair}
use Rattle.xc_order.specs.Pairs.{IsListed, AreBelow}
use Rattle.xc_order.specs.Order.{IsOrder}
use Rattle.xc_order.proofs.Heights.{chain_fits}
use Rattle.xc_product.specs.Parts.{lattices}
use Rattle.xc_product.specs.Heights.{AreHeights, HaveHeights, IsSumOfHeights, AreOfOrder, ListsRows, OnRow}
use Rattle.xc_product.specs.Lawful.{lawful_part}
use Rattle.xc_product.proofs.Turns.{next}
use Rattle.xc_product.proofs.Sizes.{small_part}

abbrev pair_of : ℕ → ℕ → Pair
pair_of a b = record { low = a; high = b }

only : (p q : Pair) → Contains (p ∷ []) q → p ≡ q
only p q h = subst (λ (k : ℕ). get_or (p ∷ []) k q ≡ q) (let e : h.0 ≡ 0 = omega (arith, h.1) in e) h.2

pub row_none : (l : LatticeData) (row : ℕ) (pairs : List Pair) → ListsRows l row pairs → OnRow l row 0 pairs
row_none l row pairs h = record { rows = h; begun = λ b hb k. absurd (omega arith) }

pub row_all : (l : LatticeData) (row : ℕ) (pairs : List Pair) → OnRow l row (size l) pairs → ListsRows l (row + 1) pairs
row_all l row pairs h =
    record {
      sound = h.rows.sound;
      listed = λ a b ha hb k.
          elim (cases_eq a row) [
            | inl same ↦ subst (λ (x : ℕ). IsListed pairs x b) (sym same) (h.begun b hb (subst (λ (x : ℕ). below l x b ≡ true) same k))
            | inr apart ↦ h.rows.listed a b (omega arith) hb k
          ];
    }

pub row_skip : (l : LatticeData) (row column : ℕ) (pairs : List Pair) → OnRow l row column pairs → below l row column ≡ false → OnRow l row (column + 1) pairs
row_skip l row column pairs h apart =
    record {
      rows = h.rows;
      begun = λ b hb k.
          elim (cases_eq b column) [
            | inl same ↦ absurd (both_ways (below l row column) apart (subst (λ (x : ℕ). below l row x ≡ true) same k))
            | inr other ↦ h.begun b (omega arith) k
          ];
    }

pub row_more : (l : LatticeData) (row column : ℕ) (pairs : List Pair) → OnRow l row column pairs → row < size l → column < size l → below l row column ≡ true
    → OnRow l row (column + 1) (pairs ++ pair_of row column ∷ [])
row_more l row column pairs h row_in column_in is =
    record {
      rows =
          record {
            sound = λ a b k.
                elim (Contains-append_cases pairs (pair_of row column ∷ []) (pair_of a b) k) [
                  | inl old ↦ h.rows.sound a b old
                  | inr new ↦
                      subst (λ (p : Pair). (p.low < size l) × (p.high < size l) × (below l p.low p.high ≡ true)) (only (pair_of row column) (pair_of a b) new) (row_in, column_in, is)
                ];
            listed = λ a b ha hb k. Contains-append_left pairs (pair_of row column ∷ []) (pair_of a b) (h.rows.listed a b ha hb k);
          };
      begun = λ b hb k.
          elim (cases_eq b column) [
            | inl same ↦
                Contains-append_right pairs (pair_of row column ∷ []) (pair_of row b) (0, omega arith, ap (λ (x : ℕ). pair_of row x) (sym same))
            | inr other ↦ Contains-append_left pairs (pair_of row column ∷ []) (pair_of row b) (h.begun b (omega arith) k)
          ];
    }

pub pairs-are_below : (l : LatticeData) (n : ℕ) (pairs : List Pair) → AreOfOrder l pairs → n ≡ size l → AreBelow n pairs
pairs-are_below l n pairs h e =
    All-weaker (Contains pairs) (λ (p : Pair). (p.low < n) × (p.high < n))
    (λ p in_list. let both = h p.low p.high in_list in (omega (arith, both.0), omega (arith, both.1))) pairs (All-contains_itself pairs)

-- what pairs of the order lead to is above
leads_up : (l : LatticeData) → IsLawful l → (pairs : List Pair) → AreOfOrder l pairs → (steps : List ℕ) (a b : ℕ) → a < size l → b < size l → Leads (IsListed pairs) a steps b → below l a b ≡ true
leads_up l lawful pairs h [] a b ha hb e = subst (λ (x : ℕ). below l a x ≡ true) e (lawful.reflexive a ha)
leads_up l lawful pairs h (x ∷ steps) a b ha hb k =
    let step = h a x k.0 in lawful.transitive a x b ha step.1 hb step.2 (leads_up l lawful pairs h steps x b step.1 hb k.1)

spanned : (l : LatticeData) → IsLawful l → (pairs : List Pair) → ListsRows l (size l) pairs → IsSpannedBy (size l) (IsListed pairs) l.order
spanned l lawful pairs h =
    record {
      square = lawful.shape.square;
      reached = λ a b ha hb k. Reaches-step (IsListed pairs) a b (h.listed a b ha hb k);
      below = λ a b ha hb k. leads_up l lawful pairs h.sound k.0 a b ha hb k.1;
    }

-- the order that the pairs span is that of the lattice
pub spanned_is : (l : LatticeData) → IsLawful l → (pairs : List Pair) (n : ℕ) (order : List (List Bool)) → ListsRows l (size l) pairs → n ≡ size l → IsSpannedBy n (IsListed pairs) order → order ≡ l.order
spanned_is l lawful pairs n order h e spans =
    spanned_once (size l) (IsListed pairs) order l.order (subst (λ (m : ℕ). IsSpannedBy m (IsListed pairs) order) e spans) (spanned l lawful pairs h)

pub antisymmetric_part : (t : AnyTable) → IsAntisymmetric (lattice_in_any t).order
antisymmetric_part t = (lawful_part t).0.antisymmetric

pub height_small : (t : AnyTable) (height : ℕ) → IsHeight (lattice_in_any t).order height → height < 64
height_small t height h =
    let lawful = (lawful_part t).0 in
    let order : IsOrder (size (lattice_in_any t)) (lattice_in_any t).order =
    record { positive = omega (arith, (lawful_part t).1); limit = small_part t; square = lawful.shape.square; reflexive = lawful.reflexive; transitive = lawful.transitive } in
    omega (arith, h.reached, chain_fits (size (lattice_in_any t)) (lattice_in_any t).order order lawful.antisymmetric h.chain h.is_chain, small_part t)

-- a height more
pub heights_more : (tables : List AnyTable) (i : ℕ) (t : AnyTable) (height rest : ℕ) → i < length tables → t ≡ get_or tables i t → IsHeight (lattice_in_any t).order height
    → IsSumOfHeights (lattices (drop (i + 1) tables)) rest → IsSumOfHeights (lattices (drop i tables)) (height + rest)
heights_more tables i t height rest within is h k =
    subst (λ (ts : List AnyTable). IsSumOfHeights (lattices ts) (height + rest)) (sym (next tables i t within is))
    (height ∷ k.0, (h, k.1), ap (λ (x : ℕ). height + x) k.2 ∙ sym (sum_by-cons (λ x. x) height k.0))

pub heights_past : (tables : List AnyTable) (n : ℕ) → length tables ≤ n → IsSumOfHeights (lattices (drop n tables)) 0
heights_past [] zero h = ([], tt, refl)
heights_past [] (suc n) h = ([], tt, refl)
heights_past (t ∷ tables) zero h = absurd (omega arith)
heights_past (t ∷ tables) (suc n) h = heights_past tables n (omega arith)

-- heights of the same parts have the same sum
same_sums : (parts : List LatticeData) (heights others : List ℕ) → AreHeights parts heights → AreHeights parts others → sum heights ≡ sum others
same_sums [] [] [] h k = refl
same_sums [] (x ∷ heights) others h k = absurd h
same_sums [] [] (y ∷ others) h k = absurd k
same_sums (l ∷ parts) [] others h k = absurd h
same_sums (l ∷ parts) (x ∷ heights) [] h k = absurd k
same_sums (l ∷ parts) (x ∷ heights) (y ∷ others) h k =
    sum_by-cons (λ x. x) x heights ∙ (ap (λ (n : ℕ). n + sum heights) (heights_are_unique l.order x y h.0 k.0)
    ∙ (ap (λ (n : ℕ). y + n) (same_sums parts heights others h.1 k.1) ∙ sym (sum_by-cons (λ x. x) y others)))

pub height_is_sum : (parts : List LatticeData) (height : ℕ) → ∥ IsSumOfHeights parts height ∥₁ → (heights : List ℕ) → AreHeights parts heights → height ≡ sum heights
height_is_sum parts height kept heights h =
    ∥∥₁_elim kept (ℕ_set height (sum heights)) (λ (k : IsSumOfHeights parts height). k.2 ∙ same_sums parts k.0 heights k.1 h)

pub have_heights : (parts : List LatticeData) (height : ℕ) → ∥ IsSumOfHeights parts height ∥₁ → HaveHeights parts
have_heights parts height kept = ∥∥₁_elim kept ∥∥₁_prop (λ (k : IsSumOfHeights parts height). ∣ (k.0, k.1) ∣₁)
