-- The order of pairs, the steps to it and its height at small cases whose values are known from outside.
use Rattle.std.proofs.Common.{◌≡◌, ◌<◌, ℕ, zero, suc, Bool, true, false, ◌||◌, not, eqb, List, [], ◌∷◌, length, map, get_or, refl, ap, arith}
use Rattle.std.specs.List.{list_all, range_with_len}
use Rattle.std.proofs.lemmas.Bool.{eqb-true, false≢true}
use Rattle.xc_theory.specs.Orders.{is_below, IsAntisymmetric}
use Rattle.xc_theory.specs.Chains.{IsHeight}
use Rattle.xc_theory.proofs.Ranges.{all_range_at}
use Rattle.xc_theory.proofs.Chains.{heights_are_unique}
use Rattle.xc_theory.proofs.Facts.{chain, diamond, circle}
use Rattle.xc_order.specs.declared.order.Pair.{Pair}
use Rattle.xc_order.specs.Pairs.{IsListed, AreBelow}
use Rattle.xc_order.specs.Order.{IsOrder, IsMatrix, table_of}
use Rattle.xc_order.specs.Closure.{own_rows, joined_row, closed_through}
use Rattle.xc_order.specs.Heights.{is_over, steps_up, is_alone}
use Rattle.xc_order.proofs.Heights.{IsHeight-from_levels, alone_decides}

-- M is below T
abbrev covers : List Pair
covers = record { low = 0; high = 1 } ∷ record { low = 1; high = 2 } ∷ []

-- F below M and M below T are said, and F below T is not: the closure adds it
pub listed : IsListed covers 1 2
listed = (1, omega arith, refl)

pub not_listed : IsListed covers 0 2 → ⊥
not_listed (zero, low, same) = let wrong : 1 ≡ 2 = ap (λ (p : Pair). p.high) same in omega (arith, wrong)
not_listed (suc zero, low, same) = let wrong : 1 ≡ 0 = ap (λ (p : Pair). p.low) same in omega (arith, wrong)
not_listed (suc (suc k), low, same) = omega (arith, low)

-- an element past the last
pub not_below : AreBelow 2 covers → ⊥
not_below h = let wrong = h 1 (record { low = 0; high = 0 }) (omega arith) in omega (arith, wrong.1)

-- before the pairs each element is below itself alone
pub alone : table_of 3 (own_rows 3) ≡ (true ∷ false ∷ false ∷ []) ∷ (false ∷ true ∷ false ∷ []) ∷ (false ∷ false ∷ true ∷ []) ∷ []
alone = refl

-- with the pairs, going through M gives F all that M has: the chain of three
pub closed : table_of 3 (closed_through 1 ((true ∷ true ∷ false ∷ []) ∷ (false ∷ true ∷ true ∷ []) ∷ (false ∷ false ∷ true ∷ []) ∷ [])) ≡ chain.order
closed = refl

-- a row that does not have k stays
pub kept : joined_row 1 (true ∷ true ∷ true ∷ []) (false ∷ false ∷ true ∷ []) ≡ false ∷ false ∷ true ∷ []
kept = refl

-- of the diamond's elements the longest chains upward have 2, 1, 1 and 0 steps, of one step at most 1, 1, 1 and 0
pub steps : (map (steps_up diamond.order 4) (0 ∷ 1 ∷ 2 ∷ 3 ∷ []) ≡ 2 ∷ 1 ∷ 1 ∷ 0 ∷ []) × (map (steps_up diamond.order 1) (0 ∷ 1 ∷ 2 ∷ 3 ∷ []) ≡ 1 ∷ 1 ∷ 1 ∷ 0 ∷ [])
steps = (refl, refl)

-- T is over F, and no element is over itself
pub over : (is_over diamond.order 0 3 ≡ true) × (is_over diamond.order 3 0 ≡ false) × (is_over diamond.order 3 3 ≡ false)
over = (refl, refl, refl)

-- no other element is below and above one of the diamond; those of a circle are so to each other
pub turned_round : (map (is_alone diamond.order) (0 ∷ 1 ∷ 2 ∷ 3 ∷ []) ≡ true ∷ true ∷ true ∷ true ∷ []) × (map (is_alone circle) (0 ∷ 1 ∷ []) ≡ false ∷ false ∷ [])
turned_round = (refl, refl)

each_passes : (p : ℕ → Bool) → list_all p (range_with_len 0 4) ≡ true → (a : ℕ) → a < 4 → p a ≡ true
each_passes p h a ha = all_range_at p 0 4 a h (omega arith) (omega arith)

both_implied : (x y z : Bool) → (not x || (not y || z)) ≡ true → x ≡ true → y ≡ true → z ≡ true
both_implied x y z h e f = grind arith

-- whether what is below what is below c is below it
abbrev goes_on : ℕ → ℕ → ℕ → Bool
goes_on a b c = not (is_below diamond.order a b) || (not (is_below diamond.order b c) || is_below diamond.order a c)

pub diamond_is_order : IsOrder 4 diamond.order
diamond_is_order =
    record {
      positive = omega arith;
      limit = omega arith;
      square = record { rows = refl; columns = λ a ha. eqb-true (length (get_or diamond.order a [])) 4 (each_passes (λ x. eqb (length (get_or diamond.order x [])) 4) refl a ha) };
      reflexive = each_passes (λ a. is_below diamond.order a a) refl;
      transitive = λ a b c ha hb hc x y.
          both_implied (is_below diamond.order a b) (is_below diamond.order b c) (is_below diamond.order a c)
          (each_passes (λ k. goes_on a b k)
          (each_passes (λ j. list_all (λ k. goes_on a j k) (range_with_len 0 4))
          (each_passes (λ i. list_all (λ j. list_all (λ k. goes_on i j k) (range_with_len 0 4)) (range_with_len 0 4)) refl a ha) b hb) c hc) x y;
    }

-- rows that do not go on: 0 below 1, 1 below 2, and 0 not below 2
pub not_an_order : IsOrder 3 ((true ∷ true ∷ false ∷ []) ∷ (false ∷ true ∷ true ∷ []) ∷ (false ∷ false ∷ true ∷ []) ∷ []) → ⊥
not_an_order h = false≢true (h.transitive 0 1 2 (omega arith) (omega arith) (omega arith) refl refl)

-- rows of three are no rows of 64
pub no_matrix : IsMatrix 3 chain.order → ⊥
no_matrix h = let wrong : 3 ≡ 64 = h.columns 0 (omega arith) in omega (arith, wrong)

pub diamond_is_antisymmetric : IsAntisymmetric diamond.order
diamond_is_antisymmetric = (alone_decides diamond.order).0 refl

-- the height of the diamond is 2, and no other
pub height_of_diamond : IsHeight diamond.order 2
height_of_diamond =
    IsHeight-from_levels 4 4 diamond.order (2 ∷ 1 ∷ 1 ∷ 0 ∷ []) 2 diamond_is_order diamond_is_antisymmetric (omega arith)
    (λ a ha. eqb-true (get_or (2 ∷ 1 ∷ 1 ∷ 0 ∷ []) a 0) (steps_up diamond.order 4 a) (each_passes (λ x. eqb (get_or (2 ∷ 1 ∷ 1 ∷ 0 ∷ []) x 0) (steps_up diamond.order 4 x)) refl a ha)) refl

pub no_other_height : IsHeight diamond.order 3 → ⊥
no_other_height h = let wrong = heights_are_unique diamond.order 2 3 height_of_diamond h in omega (arith, wrong)
