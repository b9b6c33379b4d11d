-- What tables of operations tell, and the product of one part.
use Rattle.std.proofs.Common.{◌≡◌, ℕ, ◌+◌, ◌*◌, ◌<◌, ◌≤◌, Bool, true, false, eqb, ◌&&◌, List, [], ◌∷◌, get_or, map, refl, sym, ap, subst, ◌∙◌, inl, inr, arith}
use Rattle.std.specs.List.{range_with_len}
use Rattle.std.proofs.lemmas.Bool.{cases_Bool, cases_eq, eq-eqb, ne_eqb, both_ways}
use Rattle.std.proofs.lemmas.List.FromFn.{fill_by_all}
use Rattle.std.proofs.lemmas.Nat.{mul-le}
use Rattle.std.proofs.Math.Nat.{mul-one, div-one}
use Rattle.xc_theory.specs.Lattices.{LatticeData, IsLawful, size, below, meet, join, negation, bottom, top}
use Rattle.xc_alg.specs.Operations.{IsAlgebra}
use Rattle.xc_alg.specs.Products.{product}
use Rattle.xc_alg.specs.Tables.{AreTablesOf, entry, lattice_in}
use Rattle.xc_alg.proofs.AlgebraLaws.{meet_of_below, below_of_meet}
use Rattle.xc_alg.proofs.Parts.{single, single_laws}
use Rattle.xc_alg.proofs.Products.{product_laws}

-- a is below b where a is the meet of both
below_by_meet : (l : LatticeData) → IsLawful l → 2 ≤ size l → (a b m : ℕ) → a < size l → b < size l → m ≡ meet l a b → below l a b ≡ eqb m a
below_by_meet l lawful several a b m ha hb e =
    elim (cases_Bool (below l a b)) [
      | inl related ↦ related ∙ sym (eq-eqb m a (e ∙ meet_of_below (single l) (single_laws l lawful several) a b ha hb related))
      | inr apart ↦ apart ∙ sym (ne_eqb m a (λ same. both_ways (below l a b) apart (below_of_meet (single l) (single_laws l lawful several) a b ha hb (sym e ∙ same))))
    ]

-- the lattice that tables tell is the one that they were made of
pub lattice_in-is : (l : LatticeData) (n : ℕ) (meet_rows join_rows : List (List ℕ)) (negation_row : List ℕ) → AreTablesOf l n meet_rows join_rows negation_row → lattice_in n meet_rows negation_row ≡ l
unfolding lattice_in
lattice_in-is l n meet_rows join_rows negation_row h =
    let row = λ (a : ℕ). map (λ b. eqb (entry meet_rows a b) a) (range_with_len 0 n) in
    let order : l.order ≡ map row (range_with_len 0 n) =
    fill_by_all row l.order n [] h.sized (λ a ha.
    fill_by_all (λ b. eqb (entry meet_rows a b) a) (get_or l.order a []) n false (h.lawful.shape.square.columns a (omega (arith, h.sized)) ∙ h.sized) (λ b hb.
    below_by_meet l h.lawful h.several a b (entry meet_rows a b) (omega (arith, h.sized)) (omega (arith, h.sized)) (h.meets a b ha hb))) in
    let negations : l.negations ≡ map (λ a. get_or negation_row a 0) (range_with_len 0 n) =
    fill_by_all (λ a. get_or negation_row a 0) l.negations n 0 (h.lawful.shape.negations ∙ h.sized) (λ a ha. sym (h.negations a ha)) in
    sym (ap (λ (o : List (List Bool)). record { order = o; negations = l.negations }) order ∙ ap (λ (s : List ℕ). record { order = map row (range_with_len 0 n); negations = s }) negations)

-- tables of a lattice are those of the lattice that they tell
pub tables-of_told : (l : LatticeData) (n : ℕ) (meet_rows join_rows : List (List ℕ)) (negation_row : List ℕ) → AreTablesOf l n meet_rows join_rows negation_row → AreTablesOf (lattice_in n meet_rows negation_row) n meet_rows join_rows negation_row
tables-of_told l n meet_rows join_rows negation_row h =
    subst (λ (k : LatticeData). AreTablesOf k n meet_rows join_rows negation_row) (sym (lattice_in-is l n meet_rows join_rows negation_row h)) h

and_true : (x : Bool) → (x && true) ≡ x
and_true true = refl
and_true false = refl

-- one part, and its operations on codes
module _ (l : LatticeData) where
  pub product_size : (product (l ∷ [])).size ≡ size l
  unfolding product
  product_size = mul-one (size l)

  pub product_below : (a b : ℕ) → (product (l ∷ [])).below a b ≡ below l a b
  unfolding product
  product_below a b = rw (div-one a, div-one b) (and_true (below l a b))

  pub product_meet : (a b : ℕ) → (product (l ∷ [])).meet a b ≡ meet l a b
  unfolding product
  product_meet a b = rw (div-one a, div-one b) (omega arith)

  pub product_join : (a b : ℕ) → (product (l ∷ [])).join a b ≡ join l a b
  unfolding product
  product_join a b = rw (div-one a, div-one b) (omega arith)

  pub product_negation : (a : ℕ) → (product (l ∷ [])).negation a ≡ negation l a
  unfolding product
  product_negation a = rw (div-one a) (omega arith)

  pub product_bottom : (product (l ∷ [])).bottom ≡ bottom l
  unfolding product
  product_bottom = omega arith

  pub product_top : (product (l ∷ [])).top ≡ top l
  unfolding product
  product_top = omega arith

-- the tables tell an algebra, of at most 4,096 elements
pub tables-laws : (l : LatticeData) (n : ℕ) (meet_rows join_rows : List (List ℕ)) (negation_row : List ℕ) → AreTablesOf l n meet_rows join_rows negation_row → IsAlgebra (product (lattice_in n meet_rows negation_row ∷ []))
tables-laws l n meet_rows join_rows negation_row h =
    subst (λ (k : LatticeData). IsAlgebra (product (k ∷ []))) (sym (lattice_in-is l n meet_rows join_rows negation_row h))
    (product_laws (l ∷ []) (h.lawful, h.several, tt))

pub tables-limited : (l : LatticeData) (n : ℕ) (meet_rows join_rows : List (List ℕ)) (negation_row : List ℕ) (most : ℕ) → AreTablesOf l n meet_rows join_rows negation_row → n ≤ most → most ≤ 64 → (product (lattice_in n meet_rows negation_row ∷ [])).size ≤ 4096
tables-limited l n meet_rows join_rows negation_row most h fits small =
    subst (λ (k : LatticeData). (product (k ∷ [])).size ≤ 4096) (sym (lattice_in-is l n meet_rows join_rows negation_row h)) (omega (arith, product_size l, h.sized))

-- the tables of a lattice, read as the operations of the product of that one part
module _ {l : LatticeData} {n : ℕ} {meet_rows join_rows : List (List ℕ)} {negation_row : List ℕ} (h : AreTablesOf l n meet_rows join_rows negation_row) where
  -- a code of the product is a row of the tables
  pub code-row : (a : ℕ) → a < (product (l ∷ [])).size → a < n
  code-row a ha = omega (arith, product_size l, h.sized)

  -- what a look at an entry asks, with the sizes in bytes of the rows of an array
  pub entry_call : (most a b : ℕ) → n ≤ most → most ≤ 64 → a < (product (l ∷ [])).size → b < (product (l ∷ [])).size
      → (most * (most * 1) < 9223372036854775808) × ((most * 1 < 9223372036854775808) × ((a < most) × ((b < most) × (most ≤ 64))))
  entry_call most a b fits small ha hb =
      (omega (arith, mul-le most (most * 1) 64 64 small (omega arith)), (omega arith, (omega (arith, code-row a ha), (omega (arith, code-row b hb), small))))

  laws_of_part : IsAlgebra (single l)
  laws_of_part = single_laws l h.lawful h.several

  pub meet-entry : (a b : ℕ) → a < (product (l ∷ [])).size → b < (product (l ∷ [])).size → entry meet_rows a b ≡ (product (l ∷ [])).meet a b
  meet-entry a b ha hb = h.meets a b (code-row a ha) (code-row b hb) ∙ sym (product_meet l a b)

  pub join-entry : (a b : ℕ) → a < (product (l ∷ [])).size → b < (product (l ∷ [])).size → entry join_rows a b ≡ (product (l ∷ [])).join a b
  join-entry a b ha hb = h.joins a b (code-row a ha) (code-row b hb) ∙ sym (product_join l a b)

  pub negation-entry : (a : ℕ) → a < (product (l ∷ [])).size → get_or negation_row a 0 ≡ (product (l ∷ [])).negation a
  negation-entry a ha = h.negations a (code-row a ha) ∙ sym (product_negation l a)

  pub below-entry : (a b : ℕ) → a < (product (l ∷ [])).size → b < (product (l ∷ [])).size → eqb (entry meet_rows a b) a ≡ (product (l ∷ [])).below a b
  below-entry a b ha hb =
      sym (product_below l a b
      ∙ below_by_meet l h.lawful h.several a b (entry meet_rows a b) (omega (arith, product_size l)) (omega (arith, product_size l)) (h.meets a b (code-row a ha) (code-row b hb)))

  -- entries are elements
  pub meet-lt : (a b : ℕ) → a < n → b < n → entry meet_rows a b < n
  meet-lt a b ha hb = omega (arith, h.sized, h.meets a b ha hb, laws_of_part.meet_in_range a b (omega (arith, h.sized)) (omega (arith, h.sized)))

  pub join-lt : (a b : ℕ) → a < n → b < n → entry join_rows a b < n
  join-lt a b ha hb = omega (arith, h.sized, h.joins a b ha hb, laws_of_part.join_in_range a b (omega (arith, h.sized)) (omega (arith, h.sized)))

  -- the meet with one element more is below one element more, and the join is above it
  pub meet_more : (m a k : ℕ) → m < n → a < n → ((i : ℕ) → i < a → below l m i ≡ true) → k < a + 1 → below l (entry meet_rows m a) k ≡ true
  meet_more m a k hm ha before hk =
      let hm' : m < size l = omega (arith, h.sized) in
      let ha' : a < size l = omega (arith, h.sized) in
      rw (h.meets m a hm ha)
      (elim (cases_eq k a) [
        | inl same ↦ subst (λ (x : ℕ). below l (meet l m a) x ≡ true) (sym same) (laws_of_part.meet_below_right m a hm' ha')
        | inr apart ↦
            laws_of_part.transitive (meet l m a) m k (laws_of_part.meet_in_range m a hm' ha') hm' (omega arith) (laws_of_part.meet_below_left m a hm' ha') (before k (omega arith))
      ])

  pub join_more : (m a k : ℕ) → m < n → a < n → ((i : ℕ) → i < a → below l i m ≡ true) → k < a + 1 → below l k (entry join_rows m a) ≡ true
  join_more m a k hm ha before hk =
      let hm' : m < size l = omega (arith, h.sized) in
      let ha' : a < size l = omega (arith, h.sized) in
      rw (h.joins m a hm ha)
      (elim (cases_eq k a) [
        | inl same ↦ subst (λ (x : ℕ). below l x (join l m a) ≡ true) (sym same) (laws_of_part.join_above_right m a hm' ha')
        | inr apart ↦
            laws_of_part.transitive k m (join l m a) (omega arith) hm' (laws_of_part.join_in_range m a hm' ha') (before k (omega arith)) (laws_of_part.join_above_left m a hm' ha')
      ])

  -- what is below all is the bottom, and what is above all is the top
  pub below_all-bottom : (m : ℕ) → m < n → ((k : ℕ) → k < n → below l m k ≡ true) → m ≡ (product (l ∷ [])).bottom
  below_all-bottom m hm all =
      laws_of_part.antisymmetric m (bottom l) (omega (arith, h.sized)) laws_of_part.bottom_in_range
      (all (bottom l) (omega (arith, h.sized, laws_of_part.bottom_in_range))) (laws_of_part.bottom_below m (omega (arith, h.sized)))
      ∙ sym (product_bottom l)

  pub above_all-top : (m : ℕ) → m < n → ((k : ℕ) → k < n → below l k m ≡ true) → m ≡ (product (l ∷ [])).top
  above_all-top m hm all =
      laws_of_part.antisymmetric m (top l) (omega (arith, h.sized)) laws_of_part.top_in_range
      (laws_of_part.top_above m (omega (arith, h.sized))) (all (top l) (omega (arith, h.sized, laws_of_part.top_in_range)))
      ∙ sym (product_top l)
