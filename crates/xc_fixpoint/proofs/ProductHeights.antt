-- An algebra has one height, and that of a product is the sum of the heights of its parts.
use Rattle.std.proofs.Common.{◌≡◌, ℕ, ◌≤◌, List, [], ◌∷◌, length, refl, sym, subst, arith}
use Rattle.std.specs.List.{sum}
use Rattle.std.proofs.lemmas.List.Sums.{sum_by-cons}
use Rattle.xc_theory.specs.Chains as tables
use Rattle.xc_theory.specs.Lattices.{LatticeData}
use Rattle.xc_alg.specs.Operations.{Operations}
use Rattle.xc_alg.specs.Products.{product, AreLawful}
use Rattle.xc_alg.proofs.Parts.{single, single_laws}
use Rattle.xc_alg.proofs.Products.{product-cons, product_laws}
use Rattle.xc_product.specs.Heights.{AreHeights}
use Rattle.xc_fixpoint.specs.Heights.{IsChain, IsHeight}
use Rattle.xc_fixpoint.proofs.PairHeights.{pair_height}

pub height_is_unique : (o : Operations) (height other : ℕ) → IsHeight o height → IsHeight o other → height ≡ other
height_is_unique o height other h k = omega (arith, h.reached, k.reached, h.greatest k.chain k.is_chain, k.greatest h.chain h.is_chain)

-- a chain of the order of a lattice is one of its algebra
pub chain_of_part : (l : LatticeData) (xs : List ℕ) → tables.IsChain l.order xs → IsChain (single l) xs
chain_of_part l [] h = tt
chain_of_part l (x ∷ []) h = h
chain_of_part l (x ∷ y ∷ rest) h = (h.0, h.1, h.2, chain_of_part l (y ∷ rest) h.3)

chain_in_part : (l : LatticeData) (xs : List ℕ) → IsChain (single l) xs → tables.IsChain l.order xs
chain_in_part l [] h = tt
chain_in_part l (x ∷ []) h = h
chain_in_part l (x ∷ y ∷ rest) h = (h.0, h.1, h.2, chain_in_part l (y ∷ rest) h.3)

pub height_of_part : (l : LatticeData) (height : ℕ) → tables.IsHeight l.order height → IsHeight (single l) height
height_of_part l height h =
    record { chain = h.chain; is_chain = chain_of_part l h.chain h.is_chain; reached = h.reached; greatest = λ xs chain. h.greatest xs (chain_in_part l xs chain) }

lone : (xs : List ℕ) → IsChain (product []) xs → length xs ≤ 1
unfolding product
lone [] h = omega arith
lone (x ∷ []) h = omega arith
lone (x ∷ y ∷ []) h = absurd (h.2 (omega (arith, h.0, h.3)))
lone (x ∷ y ∷ z ∷ rest) h = absurd (h.2 (omega (arith, h.0, h.3.0)))

height_of_none : IsHeight (product []) 0
unfolding product
height_of_none = record { chain = 0 ∷ []; is_chain = omega arith; reached = refl; greatest = lone }

pub height_of_product : (parts : List LatticeData) (heights : List ℕ) → AreLawful parts → AreHeights parts heights → IsHeight (product parts) (sum heights)
height_of_product [] [] lawful h = height_of_none
height_of_product [] (height ∷ heights) lawful h = absurd h
height_of_product (l ∷ parts) [] lawful h = absurd h
height_of_product (l ∷ parts) (height ∷ heights) lawful h =
    subst (λ (o : Operations). IsHeight o (sum (height ∷ heights))) (sym (product-cons l parts))
    (rw (sum_by-cons (λ x. x) height heights)
    (pair_height (single l) (product parts) (single_laws l lawful.0 lawful.1) (product_laws parts lawful.2) height (sum heights) (height_of_part l height h.0) (height_of_product parts heights lawful.2 h.1)))
