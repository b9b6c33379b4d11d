-- The product of lawful parts is an algebra, and its bounds of lists go digit by digit.
use Rattle.std.proofs.Common.{◌≡◌, ℕ, ◌<◌, ◌≤◌, List, [], ◌∷◌, map, refl, sym, ap, subst, ◌∙◌, arith}
use Rattle.xc_theory.specs.Bounds.{meet_of, join_of}
use Rattle.xc_theory.specs.Lattices.{LatticeData, IsLawful, size}
use Rattle.xc_theory.proofs.Bounds.{meet_of_lt, join_of_lt}
use Rattle.xc_theory.specs.Codes.{total, digits, code_of, AreDigits}
use Rattle.xc_alg.specs.Operations.{Operations, IsAlgebra}
use Rattle.xc_alg.specs.Products.{product, AreLawful, sizes, firsts, rests, bound_digits, negation_digits, meet_codes, join_codes}
use Rattle.xc_alg.specs.Bounds.{AreElements, met, joined}
use Rattle.xc_theory.proofs.Codes.{digits_are_in_range, digits_of_codes}
use Rattle.xc_alg.proofs.Pairs.{pair, pair_laws}
use Rattle.xc_alg.proofs.Parts.{single, single_laws, meet_of_more, join_of_more}

-- the first part, and the product of the others
pub product-cons : (l : LatticeData) (parts : List LatticeData) → product (l ∷ parts) ≡ pair (single l) (product parts)
unfolding product
product-cons l parts = refl

product_of_none : IsAlgebra (product [])
unfolding product
product_of_none =
    record {
      reflexive = λ a ha. refl;
      transitive = λ a b c ha hb hc h k. refl;
      antisymmetric = λ a b ha hb h k. omega arith;
      meet_in_range = λ a b ha hb. omega arith;
      meet_below_left = λ a b ha hb. refl;
      meet_below_right = λ a b ha hb. refl;
      meet_greatest = λ a b c ha hb hc h k. refl;
      join_in_range = λ a b ha hb. omega arith;
      join_above_left = λ a b ha hb. refl;
      join_above_right = λ a b ha hb. refl;
      join_least = λ a b c ha hb hc h k. refl;
      distributive = λ a b c ha hb hc. refl;
      negation_in_range = λ a ha. omega arith;
      involution = λ a ha. omega arith;
      antitone = λ a b ha hb h. refl;
      bottom_in_range = omega arith;
      bottom_below = λ a ha. refl;
      top_in_range = omega arith;
      top_above = λ a ha. refl;
    }

pub product_laws : (parts : List LatticeData) → AreLawful parts → IsAlgebra (product parts)
product_laws [] h = product_of_none
product_laws (l ∷ parts) h =
    subst (λ (o : Operations). IsAlgebra o) (sym (product-cons l parts))
    (pair_laws (single l) (product parts) (single_laws l h.0 h.1) (product_laws parts h.2))

-- rows of digits, each in range
abbrev AreRows : List ℕ → List (List ℕ) → Type 0
AreRows sizes [] = Unit {0}
AreRows sizes (row ∷ rows) = AreDigits sizes row × AreRows sizes rows

firsts-are_elements : (size : ℕ) (sizes : List ℕ) (rows : List (List ℕ)) → AreRows (size ∷ sizes) rows → AreElements size (firsts rows)
firsts-are_elements size sizes [] h = tt
firsts-are_elements size sizes ([] ∷ rows) h = absurd h.0
firsts-are_elements size sizes ((digit ∷ row) ∷ rows) h = (h.0.0, firsts-are_elements size sizes rows h.1)

rests-are_rows : (size : ℕ) (sizes : List ℕ) (rows : List (List ℕ)) → AreRows (size ∷ sizes) rows → AreRows sizes (rests rows)
rests-are_rows size sizes [] h = tt
rests-are_rows size sizes ([] ∷ rows) h = absurd h.0
rests-are_rows size sizes ((digit ∷ row) ∷ rows) h = (h.0.1, rests-are_rows size sizes rows h.1)

digits-are_rows : (sizes codes : List ℕ) → AreElements (total sizes) codes → AreRows sizes (map (digits sizes) codes)
digits-are_rows sizes [] h = tt
digits-are_rows sizes (code ∷ codes) h = (digits_are_in_range sizes code h.0, digits-are_rows sizes codes h.1)

-- bounds digit by digit, for a bound of lists that can be taken one element after the other
module _
    (bound : LatticeData → List ℕ → ℕ)
    (in_range : (l : LatticeData) → IsLawful l → 2 ≤ size l → (xs : List ℕ) → bound l xs < size l)
    (more : (l : LatticeData) → IsLawful l → 2 ≤ size l → (x : ℕ) (xs : List ℕ) → x < size l → AreElements (size l) xs → bound l (x ∷ xs) ≡ bound l (x ∷ bound l xs ∷ [])) where
  bound_digits-in_range : (parts : List LatticeData) (rows : List (List ℕ)) → AreLawful parts → AreDigits (sizes parts) (bound_digits bound parts rows)
  bound_digits-in_range [] rows h = tt
  bound_digits-in_range (l ∷ parts) rows h = (in_range l h.0 h.1 (firsts rows), bound_digits-in_range parts (rests rows) h.2)

  bound_digits_more : (parts : List LatticeData) (row : List ℕ) (rows : List (List ℕ)) → AreLawful parts → AreRows (sizes parts) (row ∷ rows) → bound_digits bound parts (row ∷ rows) ≡ bound_digits bound parts (row ∷ bound_digits bound parts rows ∷ [])
  bound_digits_more [] row rows h hs = refl
  bound_digits_more (l ∷ parts) [] rows h hs = absurd hs.0
  bound_digits_more (l ∷ parts) (digit ∷ row) rows h hs =
      let head = more l h.0 h.1 digit (firsts rows) hs.0.0 (firsts-are_elements (size l) (sizes parts) rows hs.1) in
      let tail = bound_digits_more parts row (rests rows) h.2 (hs.0.1, rests-are_rows (size l) (sizes parts) rows hs.1) in
      ap (λ (x : ℕ). x ∷ bound_digits bound parts (row ∷ rests rows)) head ∙ ap (λ (xs : List ℕ). bound l (digit ∷ bound l (firsts rows) ∷ []) ∷ xs) tail

  bound_codes_more : (parts : List LatticeData) (code : ℕ) (codes : List ℕ) → AreLawful parts → AreElements (total (sizes parts)) (code ∷ codes)
      → code_of (sizes parts) (bound_digits bound parts (map (digits (sizes parts)) (code ∷ codes)))
      ≡ code_of (sizes parts) (bound_digits bound parts (map (digits (sizes parts)) (code ∷ code_of (sizes parts) (bound_digits bound parts (map (digits (sizes parts)) codes)) ∷ [])))
  bound_codes_more parts code codes h hs =
      let rows = map (digits (sizes parts)) codes in
      let row = digits (sizes parts) code in
      let back = digits_of_codes (sizes parts) (bound_digits bound parts rows) (bound_digits-in_range parts rows h) in
      ap (λ (xs : List ℕ). code_of (sizes parts) xs) (bound_digits_more parts row rows h (digits-are_rows (sizes parts) (code ∷ codes) hs))
      ∙ ap (λ (xs : List ℕ). code_of (sizes parts) (bound_digits bound parts (row ∷ xs ∷ []))) (sym back)

-- the bounds of the product, one code after the other
pub digitwise_meets : (parts : List LatticeData) (codes : List ℕ) → AreLawful parts → AreElements (total (sizes parts)) codes → meet_codes parts codes ≡ met (product parts) codes
unfolding product
digitwise_meets parts [] h hs = refl
digitwise_meets parts (code ∷ codes) h hs =
    bound_codes_more (λ l xs. meet_of l.order xs) (λ l lawful several xs. meet_of_lt l.order xs (omega arith)) meet_of_more parts code codes h hs
    ∙ ap (λ (m : ℕ). meet_codes parts (code ∷ m ∷ [])) (digitwise_meets parts codes h hs.1)

pub digitwise_joins : (parts : List LatticeData) (codes : List ℕ) → AreLawful parts → AreElements (total (sizes parts)) codes → join_codes parts codes ≡ joined (product parts) codes
unfolding product
digitwise_joins parts [] h hs = refl
digitwise_joins parts (code ∷ codes) h hs =
    bound_codes_more (λ l xs. join_of l.order xs) (λ l lawful several xs. join_of_lt l.order xs (omega arith)) join_of_more parts code codes h hs
    ∙ ap (λ (m : ℕ). join_codes parts (code ∷ m ∷ [])) (digitwise_joins parts codes h hs.1)

-- the digits of a bound are the bounds of the digits
pub digits_of_meets : (parts : List LatticeData) (codes : List ℕ) → AreLawful parts → digits (sizes parts) (meet_codes parts codes) ≡ bound_digits (λ l row. meet_of l.order row) parts (map (digits (sizes parts)) codes)
digits_of_meets parts codes h =
    let rows = map (digits (sizes parts)) codes in
    digits_of_codes (sizes parts) (bound_digits (λ l row. meet_of l.order row) parts rows)
    (bound_digits-in_range (λ l xs. meet_of l.order xs) (λ l lawful several xs. meet_of_lt l.order xs (omega arith)) meet_of_more parts rows h)

pub digits_of_joins : (parts : List LatticeData) (codes : List ℕ) → AreLawful parts → digits (sizes parts) (join_codes parts codes) ≡ bound_digits (λ l row. join_of l.order row) parts (map (digits (sizes parts)) codes)
digits_of_joins parts codes h =
    let rows = map (digits (sizes parts)) codes in
    digits_of_codes (sizes parts) (bound_digits (λ l row. join_of l.order row) parts rows)
    (bound_digits-in_range (λ l xs. join_of l.order xs) (λ l lawful several xs. join_of_lt l.order xs (omega arith)) join_of_more parts rows h)

negation_digits-in_range : (parts : List LatticeData) (row : List ℕ) → AreLawful parts → AreDigits (sizes parts) row → AreDigits (sizes parts) (negation_digits parts row)
negation_digits-in_range [] row h hs = tt
negation_digits-in_range (l ∷ parts) [] h hs = absurd hs
negation_digits-in_range (l ∷ parts) (digit ∷ row) h hs = (h.0.shape.in_range digit hs.0, negation_digits-in_range parts row h.2 hs.1)

pub digits_of_negations : (parts : List LatticeData) (code : ℕ) → AreLawful parts → code < (product parts).size → digits (sizes parts) ((product parts).negation code) ≡ negation_digits parts (digits (sizes parts) code)
unfolding product
digits_of_negations parts code h within =
    let row = digits (sizes parts) code in
    digits_of_codes (sizes parts) (negation_digits parts row) (negation_digits-in_range parts row h (digits_are_in_range (sizes parts) code within))
