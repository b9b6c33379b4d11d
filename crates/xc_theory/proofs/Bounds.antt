-- The first bounds that the tests find are the bounds, and there is one at most in an antisymmetric order.
use Rattle.std.proofs.Common.{◌≡◌, ℕ, ◌<◌, Bool, true, false, ◌&&◌, ◌||◌, not, List, length, refl, arith, Option, Some, None, unwrap_or}
use Rattle.std.specs.List.{list_all, range_with_len}
use Rattle.std.proofs.lemmas.Bool.{and_parts, and_from, both_ways}
use Rattle.xc_theory.specs.Orders.{is_below, IsAntisymmetric}
use Rattle.xc_theory.specs.Bounds.{is_lower_bound, is_upper_bound, is_meet, is_join, IsMeet, IsJoin, first_meet, first_join, meet_of, join_of}
use Rattle.xc_theory.specs.Laws.{MeetsAreFound, JoinsAreFound, NoOtherMeets, NoOtherJoins}
use Rattle.xc_theory.proofs.Ranges.{find_range-Some, find_range-None, all_range_at, all_range_from}

-- x implies y, as a test
implied : (x y : Bool) → (not x || y) ≡ true → x ≡ true → y ≡ true
implied x y h e = grind arith

implies : (x y : Bool) → (x ≡ true → y ≡ true) → (not x || y) ≡ true
implies true y h = h refl
implies false y h = refl

-- m is a bound, and each bound is related to it
pub best_is : (bound : ℕ → Bool) (related : ℕ → ℕ → Bool) (n m : ℕ) → (bound m && list_all (λ l. not (bound l) || related l m) (range_with_len 0 n)) ≡ true → (bound m ≡ true) × ((l : ℕ) → l < n → bound l ≡ true → related l m ≡ true)
best_is bound related n m h =
    let both = and_parts (bound m) (list_all (λ l. not (bound l) || related l m) (range_with_len 0 n)) h in
    (both.0, λ l within is_bound. implied (bound l) (related l m) (all_range_at (λ l. not (bound l) || related l m) 0 n l both.1 (omega arith) (omega arith)) is_bound)

pub best_from : (bound : ℕ → Bool) (related : ℕ → ℕ → Bool) (n m : ℕ) → bound m ≡ true → ((l : ℕ) → l < n → bound l ≡ true → related l m ≡ true) → (bound m && list_all (λ l. not (bound l) || related l m) (range_with_len 0 n)) ≡ true
best_from bound related n m is_bound best =
    and_from (bound m) (list_all (λ l. not (bound l) || related l m) (range_with_len 0 n)) is_bound
    (all_range_from (λ l. not (bound l) || related l m) 0 n (λ l low high. implies (bound l) (related l m) (best l (omega arith))))

-- the record and the test
pub IsMeet-from_test : (table : List (List Bool)) (xs : List ℕ) (m : ℕ) → m < length table → is_meet table xs m ≡ true → IsMeet table xs m
IsMeet-from_test table xs m within h =
    let best = best_is (is_lower_bound table xs) (is_below table) (length table) m h in
    record { in_range = within; lower = best.0; greatest = best.1 }

pub is_meet_of_IsMeet : (table : List (List Bool)) (xs : List ℕ) (m : ℕ) → IsMeet table xs m → is_meet table xs m ≡ true
is_meet_of_IsMeet table xs m h = best_from (is_lower_bound table xs) (is_below table) (length table) m h.lower h.greatest

pub IsJoin-from_test : (table : List (List Bool)) (xs : List ℕ) (m : ℕ) → m < length table → is_join table xs m ≡ true → IsJoin table xs m
IsJoin-from_test table xs m within h =
    let best = best_is (is_upper_bound table xs) (λ u m. is_below table m u) (length table) m h in
    record { in_range = within; upper = best.0; least = best.1 }

pub is_join_of_IsJoin : (table : List (List Bool)) (xs : List ℕ) (m : ℕ) → IsJoin table xs m → is_join table xs m ≡ true
is_join_of_IsJoin table xs m h = best_from (is_upper_bound table xs) (λ u m. is_below table m u) (length table) m h.upper h.least

-- what is found is a bound
pub meets_are_found : MeetsAreFound
unfolding first_meet
meets_are_found table xs m h =
    let found = find_range-Some (is_meet table xs) 0 (length table) m h in
    IsMeet-from_test table xs m (omega (arith, found.1)) found.2

pub joins_are_found : JoinsAreFound
unfolding first_join
joins_are_found table xs m h =
    let found = find_range-Some (is_join table xs) 0 (length table) m h in
    IsJoin-from_test table xs m (omega (arith, found.1)) found.2

-- where none is found there is none
pub no_other_meets : NoOtherMeets
unfolding first_meet
no_other_meets table xs m h meet =
    both_ways (is_meet table xs m) (find_range-None (is_meet table xs) 0 (length table) m h (omega arith) (omega (arith, meet.in_range))) (is_meet_of_IsMeet table xs m meet)

pub no_other_joins : NoOtherJoins
unfolding first_join
no_other_joins table xs m h join =
    both_ways (is_join table xs m) (find_range-None (is_join table xs) 0 (length table) m h (omega arith) (omega (arith, join.in_range))) (is_join_of_IsJoin table xs m join)

-- in an antisymmetric order there is one bound at most
pub meets_are_unique : (table : List (List Bool)) (xs : List ℕ) (m k : ℕ) → IsAntisymmetric table → IsMeet table xs m → IsMeet table xs k → m ≡ k
meets_are_unique table xs m k anti hm hk =
    anti m k hm.in_range hk.in_range (hk.greatest m hm.in_range hm.lower) (hm.greatest k hk.in_range hk.lower)

pub joins_are_unique : (table : List (List Bool)) (xs : List ℕ) (m k : ℕ) → IsAntisymmetric table → IsJoin table xs m → IsJoin table xs k → m ≡ k
joins_are_unique table xs m k anti hm hk =
    anti m k hm.in_range hk.in_range (hm.least k hk.in_range hk.upper) (hk.least m hm.in_range hm.upper)

-- an element where there is one, and else element 0, is an element
or_zero-lt : (o : Option ℕ) (n : ℕ) → 0 < n → ((m : ℕ) → o ≡ Some m → m < n) → unwrap_or o 0 < n
or_zero-lt None n positive h = positive
or_zero-lt (Some m) n positive h = h m refl

pub meet_of_lt : (table : List (List Bool)) (xs : List ℕ) → 0 < length table → meet_of table xs < length table
meet_of_lt table xs positive = or_zero-lt (first_meet table xs) (length table) positive (λ m e. (meets_are_found table xs m e).in_range)

pub join_of_lt : (table : List (List Bool)) (xs : List ℕ) → 0 < length table → join_of table xs < length table
join_of_lt table xs positive = or_zero-lt (first_join table xs) (length table) positive (λ m e. (joins_are_found table xs m e).in_range)
