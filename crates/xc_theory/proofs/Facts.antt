-- The definitions at small lattices whose values are known from outside: a wrong definition does not check here.
use Rattle.std.proofs.Common.{◌≡◌, ◌≢◌, ◌<◌, ◌≤◌, ◌+◌, ℕ, Bool, true, false, List, [], ◌∷◌, length, Some, None, refl, arith}
use Rattle.std.proofs.lemmas.Bool.{false≢true}
use Rattle.xc_theory.specs.Orders.{IsSquare, IsAntisymmetric, Leads, Reaches, IsSpannedBy}
use Rattle.xc_theory.specs.Bounds.{IsMeet, IsJoin, first_meet, first_join, meet_of}
use Rattle.xc_theory.specs.Lattices.{LatticeData, meet, join, negation, bottom, top, IsWellShaped, IsLawful}
use Rattle.xc_theory.specs.Chains.{IsChain, IsHeight}
use Rattle.xc_theory.specs.Codes.{total, digits, code_of, AreDigits}
use Rattle.xc_theory.proofs.Bounds.{IsMeet-from_test, IsJoin-from_test}

-- F below T
abbrev pub two : LatticeData
two = record { order = (true ∷ true ∷ []) ∷ (false ∷ true ∷ []) ∷ []; negations = 1 ∷ 0 ∷ [] }

-- F below M below T; M is its own negation
abbrev pub chain : LatticeData
chain = record { order = (true ∷ true ∷ true ∷ []) ∷ (false ∷ true ∷ true ∷ []) ∷ (false ∷ false ∷ true ∷ []) ∷ []; negations = 2 ∷ 1 ∷ 0 ∷ [] }

-- F below N and B, which are below T; N and B are their own negations
abbrev pub diamond : LatticeData
diamond =
    record {
      order = (true ∷ true ∷ true ∷ true ∷ []) ∷ (false ∷ true ∷ false ∷ true ∷ []) ∷ (false ∷ false ∷ true ∷ true ∷ []) ∷ (false ∷ false ∷ false ∷ true ∷ []) ∷ [];
      negations = 3 ∷ 1 ∷ 2 ∷ 0 ∷ [];
    }

-- 0 below a, b and c, which are below 1 and their own negations
abbrev pub m3 : LatticeData
m3 =
    record {
      order =
          (true ∷ true ∷ true ∷ true ∷ true ∷ []) ∷ (false ∷ true ∷ false ∷ false ∷ true ∷ []) ∷ (false ∷ false ∷ true ∷ false ∷ true ∷ [])
          ∷ (false ∷ false ∷ false ∷ true ∷ true ∷ []) ∷ (false ∷ false ∷ false ∷ false ∷ true ∷ []) ∷ [];
      negations = 4 ∷ 1 ∷ 2 ∷ 3 ∷ 0 ∷ [];
    }

-- a and b below t, and nothing below both
abbrev pub peak : List (List Bool)
peak = (true ∷ false ∷ true ∷ []) ∷ (false ∷ true ∷ true ∷ []) ∷ (false ∷ false ∷ true ∷ []) ∷ []

-- two elements, each below the other
abbrev pub circle : List (List Bool)
circle = (true ∷ true ∷ []) ∷ (true ∷ true ∷ []) ∷ []

-- N and B meet in F and join in T
pub diamond_bounds : (first_meet diamond.order (1 ∷ 2 ∷ []) ≡ Some 0) × (first_join diamond.order (1 ∷ 2 ∷ []) ≡ Some 3)
unfolding first_meet first_join
diamond_bounds = (refl, refl)

-- the bounds of no element are the top and the bottom
pub bounds_of_none : (first_meet diamond.order [] ≡ Some 3) × (first_join diamond.order [] ≡ Some 0) × (top chain ≡ 2) × (bottom chain ≡ 0)
unfolding first_meet first_join
bounds_of_none = (refl, refl, refl, refl)

-- in the chain `M meet not M` is M
pub middle : meet chain 1 (negation chain 1) ≡ 1
unfolding first_meet
middle = refl

-- elements with nothing below both have no meet, for which 0 stands; of two bounds that are each below the other the first is found
pub odd_bounds : (first_meet peak (0 ∷ 1 ∷ []) ≡ None) × (first_join peak (0 ∷ 1 ∷ []) ≡ Some 2) × (first_meet circle (1 ∷ []) ≡ Some 0) × (meet_of peak (0 ∷ 1 ∷ []) ≡ 0)
unfolding first_meet first_join
odd_bounds = (refl, refl, refl, refl)

-- `a meet (b join c)` is a, and `(a meet b) join (a meet c)` is 0
pub undistributed : (meet m3 1 (join m3 2 3) ≡ 1) × (join m3 (meet m3 1 2) (meet m3 1 3) ≡ 0)
unfolding first_meet first_join
undistributed = (refl, refl)

-- F is the meet of N and B, and T their join; T is no lower bound of them
pub is_meet : IsMeet diamond.order (1 ∷ 2 ∷ []) 0
is_meet = IsMeet-from_test diamond.order (1 ∷ 2 ∷ []) 0 (omega arith) refl

pub is_join : IsJoin diamond.order (1 ∷ 2 ∷ []) 3
is_join = IsJoin-from_test diamond.order (1 ∷ 2 ∷ []) 3 (omega arith) refl

pub not_lower : IsMeet diamond.order (1 ∷ 2 ∷ []) 3 → ⊥
not_lower h = false≢true h.lower

-- F is below M and T, and not the greatest that is; T is above F and M, and not the least that is
pub not_greatest : IsMeet chain.order (1 ∷ 2 ∷ []) 0 → ⊥
not_greatest h = false≢true (h.greatest 1 (omega arith) refl)

pub not_least : IsJoin chain.order (0 ∷ 1 ∷ []) 2 → ⊥
not_least h = false≢true (h.least 1 (omega arith) refl)

-- m3 is not lawful, nor is two with each element its own negation
pub m3_is_unlawful : IsLawful m3 → ⊥
unfolding first_meet first_join
m3_is_unlawful h = let same : 1 ≡ 0 = h.distributive 1 2 3 (omega arith) (omega arith) (omega arith) in omega (arith, same)

pub upright_is_unlawful : IsLawful (record two { negations = 0 ∷ 1 ∷ [] }) → ⊥
upright_is_unlawful h = false≢true (h.antitone 0 1 (omega arith) (omega arith) refl)

-- a negation that is no element
pub not_shaped : IsWellShaped (record two { negations = 1 ∷ 2 ∷ [] }) → ⊥
not_shaped h = let wrong : 2 < 2 = h.in_range 1 (omega arith) in omega (arith, wrong)

-- a row that is too short
pub not_square : IsSquare 2 ((true ∷ []) ∷ (false ∷ true ∷ []) ∷ []) → ⊥
not_square h = let wrong : 1 ≡ 2 = h.columns 0 (omega arith) in omega (arith, wrong)

pub not_antisymmetric : IsAntisymmetric circle → ⊥
not_antisymmetric h = let wrong : 0 ≡ 1 = h 0 1 (omega arith) (omega arith) refl refl in omega (arith, wrong)

-- each number is followed by the next one: 0 leads to 2 by 1 and 2, and not at once
abbrev follows : ℕ → ℕ → Type 0
follows a b = a + 1 ≡ b

pub leads : Leads follows 0 (1 ∷ 2 ∷ []) 2
leads = (refl, (refl, refl))

pub leads_not : Leads follows 0 (2 ∷ []) 2 → ⊥
leads_not h = let wrong : 1 ≡ 2 = h.0 in omega (arith, wrong)

-- nothing follows an element but 1 follows 0: so 1 does not lead to 0, and the circle is not spanned, nor are two elements apart
abbrev under : ℕ → ℕ → Type 0
under a b = (a ≡ 0) × (b ≡ 1)

stuck : (steps : List ℕ) → Leads under 1 steps 0 → ⊥
stuck [] h = omega (arith, h)
stuck (x ∷ steps) h = omega (arith, h.0.0)

pub reaches : Reaches under 0 1
reaches = (1 ∷ [], ((refl, refl), refl))

pub reaches_not : Reaches under 1 0 → ⊥
reaches_not h = stuck h.0 h.1

pub circle_is_not_spanned : IsSpannedBy 2 under circle → ⊥
circle_is_not_spanned h = reaches_not (h.reached 1 0 (omega arith) (omega arith) refl)

pub apart_is_not_spanned : IsSpannedBy 2 under ((true ∷ false ∷ []) ∷ (false ∷ true ∷ []) ∷ []) → ⊥
apart_is_not_spanned h = false≢true (h.below 0 1 (omega arith) (omega arith) reaches)

-- F, N, T is a chain; N, B is none, and F, F is none
pub chain_of_three : IsChain diamond.order (0 ∷ 1 ∷ 3 ∷ [])
chain_of_three = (omega arith, refl, (λ e. omega (arith, e)), (omega arith, refl, (λ e. omega (arith, e)), omega arith))

pub not_below : IsChain diamond.order (1 ∷ 2 ∷ []) → ⊥
not_below h = false≢true h.1

pub not_different : IsChain diamond.order (0 ∷ 0 ∷ []) → ⊥
not_different h = h.2 refl

-- the diamond's height is more than 1, and that of one element is 0
pub higher : IsHeight diamond.order 1 → ⊥
higher h = let wrong : 3 ≤ 2 = h.greatest (0 ∷ 1 ∷ 3 ∷ []) chain_of_three in omega (arith, wrong)

lone : (xs : List ℕ) → IsChain ((true ∷ []) ∷ []) xs → length xs ≤ 1
lone [] h = omega arith
lone (x ∷ []) h = omega arith
lone (x ∷ y ∷ []) h = absurd (h.2 (omega (arith, h.0, h.3)))
lone (x ∷ y ∷ z ∷ xs) h = absurd (h.2 (omega (arith, h.0, h.3.0)))

pub flat : IsHeight ((true ∷ []) ∷ []) 0
flat = record { chain = 0 ∷ []; is_chain = omega arith; reached = refl; greatest = lone }

-- sizes 2 and 3: six codes, and 4 is the digits 1 and 1
pub codes_of_two : (total (2 ∷ 3 ∷ []) ≡ 6) × (digits (2 ∷ 3 ∷ []) 4 ≡ 1 ∷ 1 ∷ []) × (code_of (2 ∷ 3 ∷ []) (1 ∷ 1 ∷ []) ≡ 4)
codes_of_two = (refl, refl, refl)

-- sizes 2, 3 and 4: the first digit counts twelve, the second four; no size has one code, with no digits
pub codes_of_three : (digits (2 ∷ 3 ∷ 4 ∷ []) 23 ≡ 1 ∷ 2 ∷ 3 ∷ []) × (code_of (2 ∷ 3 ∷ 4 ∷ []) (1 ∷ 0 ∷ 2 ∷ []) ≡ 14) × (total [] ≡ 1) × (digits [] 0 ≡ [])
codes_of_three = (refl, refl, refl, refl)

-- the last digit of a size is one less than it, and no digit lacks
pub are_digits : AreDigits (2 ∷ 3 ∷ []) (1 ∷ 2 ∷ [])
are_digits = (omega arith, (omega arith, tt))

pub digit_too_large : AreDigits (2 ∷ 3 ∷ []) (1 ∷ 3 ∷ []) → ⊥
digit_too_large h = omega (arith, h.1.0)

pub digit_lacks : AreDigits (2 ∷ 3 ∷ []) (1 ∷ []) → ⊥
digit_lacks h = h.1
