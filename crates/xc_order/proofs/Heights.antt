-- The levels of elements are the longest chains, the greatest of them is the height, and what the tests of equals say.
use Rattle.std.proofs.Common.{◌≡◌, ◌≢◌, ℕ, zero, suc, ◌+◌, ◌<◌, ◌≤◌, max, Bool, true, false, ◌&&◌, ◌||◌, not, cond, eqb, IsTrue, ◌↔◌, List, [], ◌∷◌, length, ◌⊎◌, inl, inr, refl, sym, ap, ◌∙◌, subst, get_or, slice_index, replicate, add-one, arith}
use Rattle.std.specs.List.{list_all, list_any, AllByRecursion, IsDistinct}
use Rattle.std.proofs.lemmas.Bool.{and_parts, and_from, or_cases, cases_eq, false≢true, not-true, eqb-true, eqb-false, ne_eqb, eq-eqb}
use Rattle.std.proofs.lemmas.Map.Steps.{length-le_from_distinct_below}
use Rattle.xc_theory.specs.Orders.{is_below, elements, IsAntisymmetric, IsSquare}
use Rattle.xc_theory.specs.Chains.{IsChain, IsHeight}
use Rattle.xc_theory.proofs.Ranges.{all_range_at, all_range_from}
use Rattle.xc_order.specs.Order.{IsOrder}
use Rattle.xc_order.specs.Heights.{is_over, level_over, steps_up, greatest_level, is_alone}

is_over_parts : (table : List (List Bool)) (a b : ℕ) → is_over table a b ≡ true → (a ≢ b) × (is_below table a b ≡ true)
is_over_parts table a b h =
    let both = and_parts (not (eqb a b)) (is_below table a b) h in
    (eqb-false a b (not-true (eqb a b) both.0), both.1)

is_over_from : (table : List (List Bool)) (a b : ℕ) → a ≢ b → is_below table a b ≡ true → is_over table a b ≡ true
is_over_from table a b apart h = rw (ne_eqb a b apart, h) refl

cases_le : (m n : ℕ) → (m ≤ n) ⊎ (n ≤ m)
cases_le m n = grind arith

-- a choice by a test, at least, at most and as one of the two
choice-le : (b : Bool) (x y k : ℕ) → (b ≡ true → x ≤ k) → y ≤ k → cond b x y ≤ k
choice-le true x y k hx hy = hx refl
choice-le false x y k hx hy = hy

choice-ge : (b : Bool) (x y : ℕ) → y ≤ x → y ≤ cond b x y
choice-ge true x y h = h
choice-ge false x y h = omega arith

level_over-le : (over : ℕ → Bool) (level : ℕ → ℕ) (k m : ℕ) → ((b : ℕ) → b < m → level b ≤ k) → level_over over level m ≤ k + 1
level_over-le over level k zero h = omega arith
level_over-le over level k (suc m) h =
    let before = level_over-le over level k m (λ b b_in. h b (omega arith)) in
    let here = h m (omega arith) in
    choice-le (over m) (max (level_over over level m) (level m + 1)) (level_over over level m) (k + 1) (λ e. omega arith) before

level_over_at : (over : ℕ → Bool) (level : ℕ → ℕ) (m b : ℕ) → b < m → over b ≡ true → level b + 1 ≤ level_over over level m
level_over_at over level zero b b_in h = absurd (omega arith)
level_over_at over level (suc m) b b_in h =
    elim (cases_eq b m) [
      | inl same ↦
          let here : over m ≡ true = subst (λ (x : ℕ). over x ≡ true) same h in
          rw here (subst (λ (x : ℕ). level x + 1 ≤ max (level_over over level m) (level m + 1)) (sym same) (omega arith))
      | inr other ↦
          let before = level_over_at over level m b (omega arith) h in
          let kept = choice-ge (over m) (max (level_over over level m) (level m + 1)) (level_over over level m) (omega arith) in
          omega arith
    ]

-- the level is 0, or one more than that of an element over it
abbrev IsFromOver : (ℕ → Bool) → (ℕ → ℕ) → ℕ → ℕ → Type 0
IsFromOver over level m x = (b : ℕ) × (b < m) × (over b ≡ true) × (x ≡ level b + 1)

later_over : (over : ℕ → Bool) (level : ℕ → ℕ) (m x : ℕ) → IsFromOver over level m x → IsFromOver over level (suc m) x
later_over over level m x h = (h.0, omega (arith, h.1), h.2, h.3)

from_choice : (over : ℕ → Bool) (level : ℕ → ℕ) (m before : ℕ) (t : Bool) → over m ≡ t → (before ≡ 0) ⊎ IsFromOver over level m before → (cond t (max before (level m + 1)) before ≡ 0) ⊎ IsFromOver over level (suc m) (cond t (max before (level m + 1)) before)
from_choice over level m before false e (inl none) = inl none
from_choice over level m before false e (inr some) = inr (later_over over level m before some)
from_choice over level m before true e (inl none) = inr (m, omega arith, e, omega arith)
from_choice over level m before true e (inr some) =
    elim (cases_le (level m + 1) before) [
      | inl less ↦ let same : max before (level m + 1) ≡ before = omega arith in inr (some.0, omega (arith, some.1), some.2, same ∙ some.3)
      | inr more ↦ inr (m, omega arith, e, omega arith)
    ]

level_over_is : (over : ℕ → Bool) (level : ℕ → ℕ) (m : ℕ) → (level_over over level m ≡ 0) ⊎ IsFromOver over level m (level_over over level m)
level_over_is over level zero = inl refl
level_over_is over level (suc m) = from_choice over level m (level_over over level m) (over m) refl (level_over_is over level m)

pub level_over-agree : (over : ℕ → Bool) (f g : ℕ → ℕ) (m : ℕ) → ((b : ℕ) → b < m → f b ≡ g b) → level_over over f m ≡ level_over over g m
level_over-agree over f g zero h = refl
level_over-agree over f g (suc m) h = rw (level_over-agree over f g m (λ b b_in. h b (omega arith)), h m (omega arith)) refl

pub greatest_level-agree : (f g : ℕ → ℕ) (m : ℕ) → ((b : ℕ) → b < m → f b ≡ g b) → greatest_level f m ≡ greatest_level g m
greatest_level-agree f g zero h = refl
greatest_level-agree f g (suc m) h = rw (greatest_level-agree f g m (λ b b_in. h b (omega arith)), h m (omega arith)) refl

greatest_level_at : (level : ℕ → ℕ) (m a : ℕ) → a < m → level a ≤ greatest_level level m
greatest_level_at level zero a a_in = absurd (omega arith)
greatest_level_at level (suc m) a a_in =
    elim (cases_eq a m) [
      | inl same ↦ subst (λ (x : ℕ). level x ≤ max (greatest_level level m) (level m)) (sym same) (omega arith)
      | inr other ↦ let before = greatest_level_at level m a (omega arith) in omega arith
    ]

greatest_level_is : (level : ℕ → ℕ) (m : ℕ) → (a : ℕ) × (a < suc m) × (greatest_level level (suc m) ≡ level a)
greatest_level_is level zero = (0, omega arith, omega arith)
greatest_level_is level (suc m) =
    let before = greatest_level_is level m in
    elim (cases_le (level (suc m)) (greatest_level level (suc m))) [
      | inl less ↦ let same : max (greatest_level level (suc m)) (level (suc m)) ≡ greatest_level level (suc m) = omega arith in (before.0, omega (arith, before.1), same ∙ before.2)
      | inr more ↦ (suc m, omega arith, omega arith)
    ]

-- no chain of at most k steps has more than k
pub steps_up_le : (table : List (List Bool)) (k a : ℕ) → steps_up table k a ≤ k
steps_up_le table zero a = omega arith
steps_up_le table (suc k) a =
    let here = level_over-le (is_over table a) (steps_up table k) k (length table) (λ b b_in. steps_up_le table k b) in
    omega arith

-- a chain with as many steps as the level says
chain_up : (table : List (List Bool)) (k a : ℕ) → a < length table → (xs : List ℕ) × IsChain table (a ∷ xs) × (length xs ≡ steps_up table k a)
chain_up table zero a a_in = ([], a_in, refl)
chain_up table (suc k) a a_in =
    elim (level_over_is (is_over table a) (steps_up table k) (length table)) [
      | inl none ↦ ([], a_in, sym none)
      | inr some ↦
          let rest = chain_up table k some.0 some.1 in
          let step = is_over_parts table a some.0 some.2 in
          (some.0 ∷ rest.0, (a_in, step.1, step.0, rest.1), omega (arith, rest.2, some.3))
    ]

chain_head : (table : List (List Bool)) (a : ℕ) (xs : List ℕ) → IsChain table (a ∷ xs) → a < length table
chain_head table a [] h = h
chain_head table a (b ∷ xs) h = h.0

-- no chain of at most k steps has more than the level says
chain_le : (table : List (List Bool)) (xs : List ℕ) (k a : ℕ) → IsChain table (a ∷ xs) → length xs ≤ k → length xs ≤ steps_up table k a
chain_le table [] k a h fits = omega arith
chain_le table (b ∷ ys) zero a h fits = absurd (omega arith)
chain_le table (b ∷ ys) (suc k) a h fits =
    let rest = chain_le table ys k b h.3 (omega arith) in
    let b_in : b < length table = chain_head table b ys h.3 in
    let here = level_over_at (is_over table a) (steps_up table k) (length table) b b_in (is_over_from table a b h.2 h.1) in
    omega arith

-- each of a chain is in range
chain_in_range : (table : List (List Bool)) (xs : List ℕ) → IsChain table xs → (q : ℕ) → list_any (eqb q) xs ≡ true → q < length table
chain_in_range table [] h q any = absurd (false≢true any)
chain_in_range table (x ∷ []) h q any =
    elim (or_cases (eqb q x) false any) [
      | inl here ↦ subst (λ (z : ℕ). z < length table) (sym (eqb-true q x here)) h
      | inr none ↦ absurd (false≢true none)
    ]
chain_in_range table (x ∷ y ∷ rest) h q any =
    elim (or_cases (eqb q x) (list_any (eqb q) (y ∷ rest)) any) [
      | inl here ↦ subst (λ (z : ℕ). z < length table) (sym (eqb-true q x here)) h.0
      | inr later ↦ chain_in_range table (y ∷ rest) h.3 q later
    ]

-- the first of a chain is below each
abbrev IsAbove : List (List Bool) → ℕ → ℕ → Type 0
IsAbove table x z = (z < length table) × (is_below table x z ≡ true)

all_weaker : (P Q : ℕ → Type 0) → ((z : ℕ) → P z → Q z) → (xs : List ℕ) → AllByRecursion P xs → AllByRecursion Q xs
all_weaker P Q h [] all = tt
all_weaker P Q h (x ∷ xs) all = (h x all.0, all_weaker P Q h xs all.1)

-- an order of any number of elements, one at least
pub record IsOrdered (n : ℕ) (table : List (List Bool)) : Type 0 where
  pub positive : 0 < n
  pub square : IsSquare n table
  pub reflexive : (a : ℕ) → a < n → is_below table a a ≡ true
  pub transitive : (a b c : ℕ) → a < n → b < n → c < n → is_below table a b ≡ true → is_below table b c ≡ true → is_below table a c ≡ true

ordered : (n : ℕ) (table : List (List Bool)) → IsOrder n table → IsOrdered n table
ordered n table order = record { positive = order.positive; square = order.square; reflexive = order.reflexive; transitive = order.transitive }

chain_above : (n : ℕ) (table : List (List Bool)) → IsOrdered n table → (xs : List ℕ) (x : ℕ) → IsChain table (x ∷ xs) → AllByRecursion (IsAbove table x) (x ∷ xs)
chain_above n table order [] x h = ((h, order.reflexive x (omega (arith, order.square.rows))), tt)
chain_above n table order (y ∷ rest) x h =
    let size : length table ≡ n = order.square.rows in
    let y_in : y < length table = chain_head table y rest h.3 in
    let further : (z : ℕ) → IsAbove table y z → IsAbove table x z = λ z above.
    (above.0, order.transitive x y z (omega (arith, h.0)) (omega arith) (omega (arith, above.0)) h.1 above.1) in
    ((h.0, order.reflexive x (omega (arith, h.0))), all_weaker (IsAbove table y) (IsAbove table x) further (y ∷ rest) (chain_above n table order rest y h.3))

-- no element is twice in a chain of an antisymmetric order
chain_distinct : (n : ℕ) (table : List (List Bool)) → IsOrdered n table → IsAntisymmetric table → (xs : List ℕ) → IsChain table xs → IsDistinct eqb xs
unfolding IsDistinct
chain_distinct n table order anti [] h = tt
chain_distinct n table order anti (x ∷ []) h = (tt, tt)
chain_distinct n table order anti (x ∷ y ∷ rest) h =
    let y_in : y < length table = chain_head table y rest h.3 in
    let apart : (z : ℕ) → IsAbove table y z → eqb x z ≡ false = λ z above.
    ne_eqb x z (λ same. h.2 (anti x y h.0 y_in h.1 (subst (λ (v : ℕ). is_below table y v ≡ true) (sym same) above.1))) in
    (all_weaker (IsAbove table y) (λ z. eqb x z ≡ false) apart (y ∷ rest) (chain_above n table order rest y h.3), chain_distinct n table order anti (y ∷ rest) h.3)

ordered_chain_fits : (n : ℕ) (table : List (List Bool)) → IsOrdered n table → IsAntisymmetric table → (xs : List ℕ) → IsChain table xs → length xs ≤ length table
ordered_chain_fits n table order anti xs h = length-le_from_distinct_below xs (length table) (chain_distinct n table order anti xs h) (chain_in_range table xs h)

pub chain_fits : (n : ℕ) (table : List (List Bool)) → IsOrder n table → IsAntisymmetric table → (xs : List ℕ) → IsChain table xs → length xs ≤ length table
chain_fits n table order anti xs h = ordered_chain_fits n table (ordered n table order) anti xs h

highest : (level : ℕ → ℕ) (m : ℕ) → 0 < m → (a : ℕ) × (a < m) × (greatest_level level m ≡ level a)
highest level zero h = absurd (omega arith)
highest level (suc m) h = greatest_level_is level m

longest : (n k : ℕ) (table : List (List Bool)) → IsOrdered n table → IsAntisymmetric table → n ≤ k → (height : ℕ) → height ≡ greatest_level (steps_up table k) (length table) → (xs : List ℕ) → IsChain table xs → length xs ≤ height + 1
longest n k table order anti enough height e [] h = omega arith
longest n k table order anti enough height e (a ∷ xs) h =
    let fits = ordered_chain_fits n table order anti (a ∷ xs) h in
    let up = chain_le table xs k a h (omega (arith, order.square.rows)) in
    let most = greatest_level_at (steps_up table k) (length table) a (chain_head table a xs h) in
    omega arith

-- after as many rounds as there are elements the greatest level is the height
height_from : (n k : ℕ) (table : List (List Bool)) (height : ℕ) → IsOrdered n table → IsAntisymmetric table → n ≤ k → height ≡ greatest_level (steps_up table k) (length table) → IsHeight table height
height_from n k table height order anti enough same =
    let size : length table ≡ n = order.square.rows in
    let best = highest (steps_up table k) (length table) (omega (arith, order.positive)) in
    let found = chain_up table k best.0 best.1 in
    record {
      chain = best.0 ∷ found.0;
      is_chain = found.1;
      reached = omega (arith, found.2, best.2);
      greatest = longest n k table order anti enough height same;
    }

pub IsHeight-from_levels : (n k : ℕ) (table : List (List Bool)) (levels : List ℕ) (height : ℕ) → IsOrder n table → IsAntisymmetric table → n ≤ k → ((a : ℕ) → a < length table → get_or levels a 0 ≡ steps_up table k a) → height ≡ greatest_level (slice_index levels) (length table) → IsHeight table height
IsHeight-from_levels n k table levels height order anti enough each is =
    height_from n k table height (ordered n table order) anti enough (is ∙ greatest_level-agree (slice_index levels) (steps_up table k) (length table) each)

-- an antisymmetric order has a height
pub height_of : (n : ℕ) (table : List (List Bool)) → IsOrdered n table → IsAntisymmetric table → (h : ℕ) × IsHeight table h
height_of n table order anti = (greatest_level (steps_up table n) (length table), height_from n n table (greatest_level (steps_up table n) (length table)) order anti (omega arith) refl)

-- before the first round
pub levels_none : (size a : ℕ) → slice_index (replicate size 0) a ≡ 0
levels_none zero a = refl
levels_none (suc size) zero = refl
levels_none (suc size) (suc a) = levels_none size a

-- one more round
pub levels_more : (table : List (List Bool)) (levels raised : List ℕ) (k : ℕ)
    → ((a : ℕ) → a < length table → get_or levels a 0 ≡ steps_up table k a)
    → ((a : ℕ) → a < length table → get_or raised a 0 ≡ level_over (is_over table a) (slice_index levels) (length table))
    → (a : ℕ) → a < length table → get_or raised a 0 ≡ steps_up table (k + 1) a
levels_more table levels raised k old new a a_in =
    new a a_in ∙ level_over-agree (is_over table a) (slice_index levels) (steps_up table k) (length table) old ∙ ap (λ (j : ℕ). steps_up table j a) (sym (add-one k))

-- what the test of all elements says
alone_apart : (x y : Bool) → (x || not y) ≡ true → y ≡ true → x ≡ true
alone_apart x y h e = grind arith

alone_from : (x y : Bool) → (y ≡ true → x ≡ true) → (x || not y) ≡ true
alone_from true y h = refl
alone_from false true h = h refl
alone_from false false h = refl

pub alone_decides : (table : List (List Bool)) → (IsTrue (list_all (is_alone table) (elements table))) ↔ IsAntisymmetric table
alone_decides table = (
  λ h a b a_in b_in ab ba.
      let at_a : is_alone table a ≡ true = all_range_at (is_alone table) 0 (length table) a h (omega arith) (omega arith) in
      let at_b = all_range_at (λ c. eqb a c || not (is_below table a c && is_below table c a)) 0 (length table) b at_a (omega arith) (omega arith) in
      eqb-true a b (alone_apart (eqb a b) (is_below table a b && is_below table b a) at_b (and_from (is_below table a b) (is_below table b a) ab ba)),
  λ anti.
      all_range_from (is_alone table) 0 (length table)
      (λ a a_low a_in. all_range_from (λ c. eqb a c || not (is_below table a c && is_below table c a)) 0 (length table)
      (λ b b_low b_in. alone_from (eqb a b) (is_below table a b && is_below table b a)
      (λ both. let each = and_parts (is_below table a b) (is_below table b a) both in
      eq-eqb a b (anti a b (omega arith) (omega arith) each.0 each.1)))),
)
