-- What the definitions say of the product of two elements, F and T, and a chain of three, F, M and T.
use Rattle.std.proofs.Common.{◌≡◌, ℕ, true, false, List, [], ◌∷◌, map, set, refl, arith}
use Rattle.xc_theory.specs.Bounds.{first_meet, first_join}
use Rattle.xc_theory.specs.Lattices.{LatticeData, bottom}
use Rattle.xc_theory.specs.Codes.{total, digits, code_of}
use Rattle.xc_alg.specs.Products.{product, sizes}
use Rattle.xc_product.specs.Faults.{IsFaultOf}
use Rattle.xc_product.specs.declared.fault.ProductFault.TheVariants.{TooLarge}

two : LatticeData
two = record { order = (true ∷ true ∷ []) ∷ (false ∷ true ∷ []) ∷ []; negations = 1 ∷ 0 ∷ [] }

chain : LatticeData
chain = record { order = (true ∷ true ∷ true ∷ []) ∷ (false ∷ true ∷ true ∷ []) ∷ (false ∷ false ∷ true ∷ []) ∷ []; negations = 2 ∷ 1 ∷ 0 ∷ [] }

parts : List LatticeData
parts = two ∷ chain ∷ []

six_elements : total (sizes parts) ≡ 6
unfolding parts two chain
six_elements = refl

first_part_most_significant : code_of (sizes parts) (1 ∷ 1 ∷ []) ≡ 4
unfolding parts two chain
first_part_most_significant = refl

digits_of_four : digits (sizes parts) 4 ≡ 1 ∷ 1 ∷ []
unfolding parts two chain
digits_of_four = refl

negation_of_four : (product parts).negation 4 ≡ 1
unfolding product parts two chain
negation_of_four = refl

top_of_the_chain_embedded : code_of (sizes parts) (set (map bottom parts) 1 2) ≡ 2
unfolding parts two chain first_join
top_of_the_chain_embedded = refl

true_of_two_embedded : code_of (sizes parts) (set (map bottom parts) 0 1) ≡ 3
unfolding parts two chain first_join
true_of_two_embedded = refl

meet_part_by_part : (product parts).meet 4 2 ≡ 1
unfolding product parts two chain first_meet
meet_part_by_part = refl

join_part_by_part : (product parts).join 4 2 ≡ 5
unfolding product parts two chain first_join
join_part_by_part = refl

neither_below : (product parts).below 4 2 ≡ false
unfolding product parts two chain
neither_below = refl

-- 4,096 elements are not too many, and too many are told by their number
not_too_large : (ls : List LatticeData) → total (sizes ls) ≡ 4096 → (size : ℕ) → IsFaultOf ls (TooLarge size) → ⊥
not_too_large ls e size h = omega (arith, h.0, h.1)

told_exactly : (ls : List LatticeData) (size : ℕ) → total (sizes ls) ≡ 8192 → IsFaultOf ls (TooLarge size) → size ≡ 8192
told_exactly ls size e h = omega (arith, h.0)
