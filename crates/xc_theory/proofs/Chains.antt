-- An order has one height.
use Rattle.std.proofs.Common.{◌≡◌, ℕ, Bool, List, arith}
use Rattle.xc_theory.specs.Chains.{IsHeight}

pub heights_are_unique : (table : List (List Bool)) (h k : ℕ) → IsHeight table h → IsHeight table k → h ≡ k
heights_are_unique table h k is_h is_k =
    omega (arith, is_h.reached, is_k.reached, is_h.greatest is_k.chain is_k.is_chain, is_k.greatest is_h.chain is_h.is_chain)
