-- Products, tables and the bounds of lists of codes at small lattices whose values are known from outside.
use Rattle.std.proofs.Common.{◌≡◌, ◌≤◌, ℕ, true, false, List, [], ◌∷◌, refl, sym, subst, arith, rules}
use Rattle.std.proofs.lemmas.Bool.{false≢true}
use Rattle.xc_theory.specs.Bounds.{first_meet, first_join}
use Rattle.xc_theory.specs.Lattices.{LatticeData, IsLawful}
use Rattle.xc_theory.proofs.Facts.{two, chain, diamond, m3, m3_is_unlawful}
use Rattle.xc_alg.specs.Operations.{IsAlgebra}
use Rattle.xc_alg.specs.Products.{product, AreLawful, sizes, firsts, rests, negation_digits, below_digits, meet_codes, join_codes}
use Rattle.xc_alg.specs.Bounds.{AreElements, IsMeetOf, IsJoinOf, met, joined}
use Rattle.xc_alg.specs.Tables.{AreTablesOf, entry, lattice_in}
use Rattle.xc_alg.proofs.Literals.{tables_from_tests}
use Rattle.xc_alg.proofs.Tables.{lattice_in-is}
use Rattle.xc_alg.proofs.Products.{product_laws}

-- a view over two and one over the chain: codes F,F F,M F,T T,F T,M T,T are 0 to 5
abbrev parts : List LatticeData
parts = two ∷ chain ∷ []

pub six_elements : ((product parts).size ≡ 6) × ((product parts).bottom ≡ 0) × ((product parts).top ≡ 5)
unfolding product first_meet first_join
six_elements = (refl, refl, refl)

-- not (T,M) is F,M, and not (F,F) is T,T
pub negations : ((product parts).negation 4 ≡ 1) × ((product parts).negation 0 ≡ 5)
unfolding product
negations = (refl, refl)

-- T,F and F,T meet in F,F and join in T,T; T,M and F,T meet in F,M and join in T,T
pub meets_and_joins : ((product parts).meet 3 2 ≡ 0) × ((product parts).join 3 2 ≡ 5) × ((product parts).meet 4 2 ≡ 1) × ((product parts).join 4 2 ≡ 5)
unfolding product first_meet first_join
meets_and_joins = (refl, refl, refl, refl)

-- F,M is below T,M; F,T is not, though its code is smaller
pub below : ((product parts).below 1 4 ≡ true) × ((product parts).below 2 4 ≡ false) × ((product parts).below 4 1 ≡ false)
unfolding product
below = (refl, refl, refl)

-- bounds of lists: of none, of one, and of three codes
pub lists : (meet_codes parts [] ≡ 5) × (join_codes parts [] ≡ 0) × (meet_codes parts (4 ∷ []) ≡ 4) × (join_codes parts (0 ∷ 1 ∷ 3 ∷ []) ≡ 4)
unfolding first_meet first_join
lists = (refl, refl, refl, refl)

-- one after the other the same
pub one_by_one : (met (product parts) (4 ∷ 2 ∷ []) ≡ 1) × (joined (product parts) (0 ∷ 1 ∷ 3 ∷ []) ≡ 4) × (met (product parts) [] ≡ 5)
unfolding product first_meet first_join
one_by_one = (refl, refl, refl)

-- the digits: the first part's first
pub rows_of_digits : (sizes parts ≡ 2 ∷ 3 ∷ []) × (firsts ((1 ∷ 2 ∷ []) ∷ (0 ∷ 1 ∷ []) ∷ []) ≡ 1 ∷ 0 ∷ []) × (rests ((1 ∷ 2 ∷ []) ∷ (0 ∷ 1 ∷ []) ∷ []) ≡ (2 ∷ []) ∷ (1 ∷ []) ∷ [])
    × (negation_digits parts (0 ∷ 2 ∷ []) ≡ 1 ∷ 0 ∷ []) × (below_digits parts (0 ∷ 2 ∷ []) (1 ∷ 1 ∷ []) ≡ false)
rows_of_digits = (refl, refl, refl, refl, refl)

-- a product of no part has one element
pub no_part : ((product []).size ≡ 1) × ((product []).bottom ≡ 0) × ((product []).top ≡ 0)
unfolding product
no_part = (refl, refl, refl)

-- the operation tables of the diamond: N and B meet in F and join in T
abbrev meet_rows : List (List ℕ)
meet_rows = (0 ∷ 0 ∷ 0 ∷ 0 ∷ []) ∷ (0 ∷ 1 ∷ 0 ∷ 1 ∷ []) ∷ (0 ∷ 0 ∷ 2 ∷ 2 ∷ []) ∷ (0 ∷ 1 ∷ 2 ∷ 3 ∷ []) ∷ []

abbrev join_rows : List (List ℕ)
join_rows = (0 ∷ 1 ∷ 2 ∷ 3 ∷ []) ∷ (1 ∷ 1 ∷ 3 ∷ 3 ∷ []) ∷ (2 ∷ 3 ∷ 2 ∷ 3 ∷ []) ∷ (3 ∷ 3 ∷ 3 ∷ 3 ∷ []) ∷ []

-- the lattice that they tell is the diamond
pub told : lattice_in 4 meet_rows diamond.negations ≡ diamond
unfolding lattice_in
told = refl

pub entries : (entry meet_rows 1 2 ≡ 0) × (entry join_rows 1 2 ≡ 3) × (entry meet_rows 3 2 ≡ 2)
entries = (refl, refl, refl)

pub tables_of_diamond : (l : LatticeData) × AreTablesOf l 4 meet_rows join_rows diamond.negations
unfolding lattice_in
tables_of_diamond = tables_from_tests 4 meet_rows join_rows diamond.negations (search rules)

-- meets in the place of the joins are no tables of any lattice
pub no_tables : AreTablesOf diamond 4 meet_rows meet_rows diamond.negations → ⊥
unfolding first_join
no_tables h = let wrong : 0 ≡ 3 = h.joins 1 2 (omega arith) (omega arith) in omega (arith, wrong)

-- the chain is lawful, m3 is not, and a lawful part of one element is too small
pub chain_is_lawful : IsLawful chain
unfolding lattice_in
chain_is_lawful =
    let told = tables_from_tests 3 ((0 ∷ 0 ∷ 0 ∷ []) ∷ (0 ∷ 1 ∷ 1 ∷ []) ∷ (0 ∷ 1 ∷ 2 ∷ []) ∷ []) ((0 ∷ 1 ∷ 2 ∷ []) ∷ (1 ∷ 1 ∷ 2 ∷ []) ∷ (2 ∷ 2 ∷ 2 ∷ []) ∷ []) (2 ∷ 1 ∷ 0 ∷ []) (search rules) in
    subst IsLawful (sym (lattice_in-is told.0 3 _ _ _ told.1)) told.1.lawful

pub two_is_lawful : IsLawful two
unfolding lattice_in
two_is_lawful =
    let told = tables_from_tests 2 ((0 ∷ 0 ∷ []) ∷ (0 ∷ 1 ∷ []) ∷ []) ((0 ∷ 1 ∷ []) ∷ (1 ∷ 1 ∷ []) ∷ []) (1 ∷ 0 ∷ []) (search rules) in
    subst IsLawful (sym (lattice_in-is told.0 2 _ _ _ told.1)) told.1.lawful

pub parts_are_lawful : AreLawful parts
parts_are_lawful = (two_is_lawful, omega arith, (chain_is_lawful, omega arith, tt))

pub not_lawful : AreLawful (m3 ∷ []) → ⊥
not_lawful h = m3_is_unlawful h.0

pub too_small : AreLawful (record { order = (true ∷ []) ∷ []; negations = 0 ∷ [] } ∷ []) → ⊥
too_small h = let wrong : 2 ≤ 1 = h.1 in omega (arith, wrong)

-- their product is an algebra; with the meet for the join it is none
pub product_is_algebra : IsAlgebra (product parts)
product_is_algebra = product_laws parts parts_are_lawful

pub no_algebra : IsAlgebra (record (product parts) { join = (product parts).meet }) → ⊥
unfolding product first_meet
no_algebra h = false≢true (h.join_above_left 3 2 (omega arith) (omega arith))

-- codes below the size are elements; F,M is the greatest lower bound of T,M and F,T, and F,F is a lower bound that is not
pub are_elements : AreElements 6 (4 ∷ 5 ∷ [])
are_elements = (omega arith, (omega arith, tt))

pub not_elements : AreElements 6 (4 ∷ 6 ∷ []) → ⊥
not_elements h = omega (arith, h.1.0)

pub not_the_meet : IsMeetOf (product parts) (4 ∷ 2 ∷ []) 0 → ⊥
unfolding product
not_the_meet h = false≢true (h.greatest 1 (omega arith) refl)

pub not_the_join : IsJoinOf (product parts) (0 ∷ 1 ∷ []) 4 → ⊥
unfolding product
not_the_join h = false≢true (h.least 1 (omega arith) refl)
