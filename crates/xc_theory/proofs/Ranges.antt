-- What a search, and a test of all, over the numbers of a range tells of each of them.
use Rattle.std.proofs.Common.{◌≡◌, ℕ, zero, suc, ◌+◌, ◌<◌, ◌≤◌, Bool, true, false, cond, Option, Some, None, ◌⊎◌, inl, inr, refl, sym, subst, arith}
use Rattle.std.specs.List.{find, list_all, range_with_len}
use Rattle.std.proofs.lemmas.Option.{none-some, same_Some}
use Rattle.std.proofs.lemmas.Bool.{and_parts, and_from, cases_eq}

-- a search that begins with one number, by whether that number passes
first-Some : (p : ℕ → Bool) (a m : ℕ) (b : Bool) (rest : Option ℕ) → p a ≡ b → cond b (Some a) rest ≡ Some m → ((a ≡ m) × (p m ≡ true)) ⊎ (rest ≡ Some m)
first-Some p a m true rest e h = let same = same_Some a m h in inl (same, subst (λ (x : ℕ). p x ≡ true) same e)
first-Some p a m false rest e h = inr h

first-None : (p : ℕ → Bool) (a : ℕ) (b : Bool) (rest : Option ℕ) → p a ≡ b → cond b (Some a) rest ≡ None → (p a ≡ false) × (rest ≡ None)
first-None p a true rest e h = absurd (none-some a (sym h))
first-None p a false rest e h = (e, h)

-- the number that is found is in the range and passes
pub find_range-Some : (p : ℕ → Bool) (a n m : ℕ) → find p (range_with_len a n) ≡ Some m → (a ≤ m) × (m < a + n) × (p m ≡ true)
find_range-Some p a zero m h = absurd (none-some m h)
find_range-Some p a (suc n) m h =
    elim (first-Some p a m (p a) (find p (range_with_len (a + 1) n)) refl h) [
      | inl here ↦ (omega arith, omega arith, here.1)
      | inr later ↦ let more = find_range-Some p (a + 1) n m later in (omega (arith, more.0), omega (arith, more.1), more.2)
    ]

-- where none is found none passes
pub find_range-None : (p : ℕ → Bool) (a n k : ℕ) → find p (range_with_len a n) ≡ None → a ≤ k → k < a + n → p k ≡ false
find_range-None p a zero k h low high = absurd (omega arith)
find_range-None p a (suc n) k h low high =
    let both = first-None p a (p a) (find p (range_with_len (a + 1) n)) refl h in
    elim (cases_eq a k) [
      | inl same ↦ subst (λ (x : ℕ). p x ≡ false) same both.0
      | inr apart ↦ find_range-None p (a + 1) n k both.1 (omega arith) (omega arith)
    ]

-- where all pass, each does
pub all_range_at : (p : ℕ → Bool) (a n k : ℕ) → list_all p (range_with_len a n) ≡ true → a ≤ k → k < a + n → p k ≡ true
all_range_at p a zero k h low high = absurd (omega arith)
all_range_at p a (suc n) k h low high =
    let both = and_parts (p a) (list_all p (range_with_len (a + 1) n)) h in
    elim (cases_eq a k) [ inl same ↦ subst (λ (x : ℕ). p x ≡ true) same both.0 | inr apart ↦ all_range_at p (a + 1) n k both.1 (omega arith) (omega arith) ]

-- where each passes, all do
pub all_range_from : (p : ℕ → Bool) (a n : ℕ) → ((k : ℕ) → a ≤ k → k < a + n → p k ≡ true) → list_all p (range_with_len a n) ≡ true
all_range_from p a zero h = refl
all_range_from p a (suc n) h =
    and_from (p a) (list_all p (range_with_len (a + 1) n)) (h a (omega arith) (omega arith))
    (all_range_from p (a + 1) n (λ k low high. h k (omega arith) (omega arith)))
