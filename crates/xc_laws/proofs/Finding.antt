-- Searches over tuples, place by place.
use Rattle.std.proofs.Common.{◌≡◌, ℕ, zero, suc, ◌+◌, ◌<◌, ◌≤◌, Bool, true, false, cond, List, [], ◌∷◌, map, Option, Some, None, inl, inr, refl, sym, ap, ◌∙◌, subst, arith}
use Rattle.std.specs.List.{find, flat_map, range_with_len}
use Rattle.std.specs.Option.{option_map, option_or}
use Rattle.std.proofs.lemmas.List.Folds.{find-append}
use Rattle.std.proofs.lemmas.Bool.{cases_eq}
use Rattle.std.proofs.lemmas.Option.{none-some}
use Rattle.xc_laws.specs.Breaks.{tuples}

-- the tuples that begin with one of some numbers
abbrev with_first : List (List ℕ) → List ℕ → List (List ℕ)
with_first ts xs = flat_map (λ a. map (λ t. a ∷ t) ts) xs

find-map : (p : List ℕ → Bool) (a : ℕ) (ts : List (List ℕ)) → find p (map (λ t. a ∷ t) ts) ≡ option_map (λ t. a ∷ t) (find (λ t. p (a ∷ t)) ts)
find-map p a [] = refl
find-map p a (t ∷ ts) = chosen (p (a ∷ t)) (find-map p a ts)
  where
    chosen : (b : Bool) → find p (map (λ t. a ∷ t) ts) ≡ option_map (λ t. a ∷ t) (find (λ t. p (a ∷ t)) ts) → cond b (Some (a ∷ t)) (find p (map (λ t. a ∷ t) ts)) ≡ option_map (λ t. a ∷ t) (cond b (Some t) (find (λ t. p (a ∷ t)) ts))
    chosen true h = refl
    chosen false h = h

find-first : (p : List ℕ → Bool) (ts : List (List ℕ)) (s m : ℕ) → find p (with_first ts (range_with_len s (suc m))) ≡ option_or (option_map (λ t. s ∷ t) (find (λ t. p (s ∷ t)) ts)) (find p (with_first ts (range_with_len (s + 1) m)))
find-first p ts s m =
    find-append p (map (λ t. s ∷ t) ts) (with_first ts (range_with_len (s + 1) m))
    ∙ ap (λ (o : Option (List ℕ)). option_or o (find p (with_first ts (range_with_len (s + 1) m)))) (find-map p s ts)

-- no tuple passes where none does at any first number
none_from : (p : List ℕ → Bool) (ts : List (List ℕ)) (s m : ℕ) → ((j : ℕ) → s ≤ j → j < s + m → find (λ t. p (j ∷ t)) ts ≡ None) → find p (with_first ts (range_with_len s m)) ≡ None
none_from p ts s zero h = refl
none_from p ts s (suc m) h =
    find-first p ts s m ∙ rw (h s (omega arith) (omega arith)) (none_from p ts (s + 1) m (λ j low high. h j (omega arith) (omega arith)))

-- the first tuple that passes, where none does at a smaller first number
some_from : (p : List ℕ → Bool) (ts : List (List ℕ)) (s m a : ℕ) (t : List ℕ) → s ≤ a → a < s + m → ((j : ℕ) → s ≤ j → j < a → find (λ t. p (j ∷ t)) ts ≡ None) → find (λ t. p (a ∷ t)) ts ≡ Some t → find p (with_first ts (range_with_len s m)) ≡ Some (a ∷ t)
some_from p ts s zero a t low high before here = absurd (omega arith)
some_from p ts s (suc m) a t low high before here =
    elim (cases_eq s a) [
      | inl same ↦ find-first p ts s m ∙ rw (subst (λ (z : ℕ). find (λ t. p (z ∷ t)) ts ≡ Some t) (sym same) here) (ap (λ (z : ℕ). Some (z ∷ t)) same)
      | inr other ↦
          find-first p ts s m
          ∙ rw (before s (omega arith) (omega arith)) (some_from p ts (s + 1) m a t (omega arith) (omega arith) (λ j j_low j_high. before j (omega arith) j_high) here)
    ]

or_none : (s : ℕ) (o : Option (List ℕ)) (rest : Option (List ℕ)) → option_or (option_map (λ t. s ∷ t) o) rest ≡ None → (o ≡ None) × (rest ≡ None)
or_none s None rest h = (refl, h)
or_none s (Some t) rest h = absurd (none-some (s ∷ t) (sym h))

-- where none passes, none does at each first number
none_at : (p : List ℕ → Bool) (ts : List (List ℕ)) (s m j : ℕ) → find p (with_first ts (range_with_len s m)) ≡ None → s ≤ j → j < s + m → find (λ t. p (j ∷ t)) ts ≡ None
none_at p ts s zero j h low high = absurd (omega arith)
none_at p ts s (suc m) j h low high =
    let both = or_none s (find (λ t. p (s ∷ t)) ts) (find p (with_first ts (range_with_len (s + 1) m))) (sym (find-first p ts s m) ∙ h) in
    elim (cases_eq s j) [
      | inl same ↦ subst (λ (z : ℕ). find (λ t. p (z ∷ t)) ts ≡ None) same both.0
      | inr other ↦ none_at p ts (s + 1) m j both.1 (omega arith) (omega arith)
    ]

pub tuples_none : (p : List ℕ → Bool) (n k : ℕ) → ((j : ℕ) → j < n → find (λ t. p (j ∷ t)) (tuples n k) ≡ None) → find p (tuples n (suc k)) ≡ None
unfolding tuples
tuples_none p n k h = none_from p (tuples n k) 0 n (λ j low high. h j (omega arith))

pub tuples_found : (p : List ℕ → Bool) (n k a : ℕ) (t : List ℕ) → ((j : ℕ) → j < a → find (λ t. p (j ∷ t)) (tuples n k) ≡ None) → a < n → find (λ t. p (a ∷ t)) (tuples n k) ≡ Some t → find p (tuples n (suc k)) ≡ Some (a ∷ t)
unfolding tuples
tuples_found p n k a t before a_in here = some_from p (tuples n k) 0 n a t (omega arith) (omega arith) (λ j low high. before j high) here

pub tuples_none_at : (p : List ℕ → Bool) (n k j : ℕ) → find p (tuples n (suc k)) ≡ None → j < n → find (λ t. p (j ∷ t)) (tuples n k) ≡ None
unfolding tuples
tuples_none_at p n k j h j_in = none_at p (tuples n k) 0 n j h (omega arith) (omega arith)

not_chosen : (b : Bool) (t : List ℕ) → cond b (Some t) None ≡ None → b ≡ false
not_chosen true t e = absurd (none-some t (sym e))
not_chosen false t e = refl

pub tuples_none_last : (p : List ℕ → Bool) (n : ℕ) → find p (tuples n 0) ≡ None → p [] ≡ false
unfolding tuples
tuples_none_last p n h = not_chosen (p []) [] h

-- tuples of one
pub tuples_one : (p : List ℕ → Bool) (n : ℕ) → find p (tuples n 1) ≡ option_map (λ b. b ∷ []) (find (λ b. p (b ∷ [])) (range_with_len 0 n))
unfolding tuples
tuples_one p n = ones (range_with_len 0 n)
  where
    chosen : (b : Bool) (x : ℕ) (o : Option (List ℕ)) (q : Option ℕ) → o ≡ option_map (λ b. b ∷ []) q → cond b (Some (x ∷ [])) o ≡ option_map (λ b. b ∷ []) (cond b (Some x) q)
    chosen true x o q h = refl
    chosen false x o q h = h

    ones : (xs : List ℕ) → find p (with_first ([] ∷ []) xs) ≡ option_map (λ b. b ∷ []) (find (λ b. p (b ∷ [])) xs)
    ones [] = refl
    ones (x ∷ xs) = chosen (p (x ∷ [])) x (find p (with_first ([] ∷ []) xs)) (find (λ b. p (b ∷ [])) xs) (ones xs)

-- the first pair, from the first second element at each first one
pub pairs_none : (p : List ℕ → Bool) (n : ℕ) → ((a : ℕ) → a < n → find (λ b. p (a ∷ b ∷ [])) (range_with_len 0 n) ≡ None) → find p (tuples n 2) ≡ None
pairs_none p n h = tuples_none p n 1 (λ a a_in. tuples_one (λ t. p (a ∷ t)) n ∙ ap (option_map (λ b. b ∷ [])) (h a a_in))

pub pairs_found : (p : List ℕ → Bool) (n a b : ℕ) → ((k : ℕ) → k < a → find (λ b. p (k ∷ b ∷ [])) (range_with_len 0 n) ≡ None) → a < n → find (λ b. p (a ∷ b ∷ [])) (range_with_len 0 n) ≡ Some b → find p (tuples n 2) ≡ Some (a ∷ b ∷ [])
pairs_found p n a b before a_in here =
    tuples_found p n 1 a (b ∷ [])
    (λ k k_in. tuples_one (λ t. p (k ∷ t)) n ∙ ap (option_map (λ b. b ∷ [])) (before k k_in))
    a_in
    (tuples_one (λ t. p (a ∷ t)) n ∙ ap (option_map (λ b. b ∷ [])) here)
