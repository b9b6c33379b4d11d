-- Where names stand among names of which no two are the same.
use Rattle.std.proofs.Common.{◌≡◌, ℕ, zero, suc, ◌<◌, ◌≤◌, ◌+◌, Bool, true, false, cond, not, ◌||◌, nat_lt, List, [], ◌∷◌, length, drop, drop-cons, add-one, get_or, Some, None, unwrap_or, ◌⊎◌, inl, inr, refl, sym, ◌∙◌, subst, ap, arith}
use Rattle.std.specs.List.{list_any, list_all, position, position_or_len}
use Rattle.std.specs.Str.{bytes_eq}
use Rattle.std.proofs.lemmas.Bool.{both_ways, cases_lt, ltb-false, ltb-true}
use Rattle.std.proofs.lemmas.List.Folds.{list_any_at}
use Rattle.std.proofs.lemmas.List.Sums.{passes_at_first, position_or_len_is, AllPass-from_list_all, prefix_len-le-length}
use Rattle.xc_base.specs.Words.{is_name}
use Rattle.std.proofs.lemmas.Slice.Eq.{bytes_eq-Decides}
use Rattle.xc_base.specs.Names.{is_among, has_twice, name_at, place_of}

pub same_bytes : (xs ys : List ℕ) → bytes_eq xs ys ≡ true → xs ≡ ys
same_bytes xs ys h = (bytes_eq-Decides xs ys).0 h

pub bytes_refl : (xs : List ℕ) → bytes_eq xs xs ≡ true
bytes_refl xs = (bytes_eq-Decides xs xs).1 refl

not_true : false ≡ true → ⊥
not_true e = cc

-- where an element passes, the first that does is in the list
first_step : (b : Bool) (m n : ℕ) (rest : Bool) → (b || rest) ≡ true → (rest ≡ true → m < n) → cond (not b) (1 + m) 0 < suc n
first_step true m n rest h k = omega arith
first_step false m n rest h k = omega (arith, k h)

any_within : {X : Type 0} (p : X → Bool) (xs : List X) → list_any p xs ≡ true → position_or_len p xs < length xs
any_within p [] h = absurd (not_true h)
any_within p (x ∷ xs) h = first_step (p x) (position_or_len p xs) (length xs) (list_any p xs) h (any_within p xs)

-- a name that is among names stands at its place
pub among_in_range : (names : List (List ℕ)) (name : List ℕ) → is_among names name ≡ true → place_of names name < length names
among_in_range names name h = any_within (bytes_eq name) names h

pub name_at-place_of : (names : List (List ℕ)) (name : List ℕ) → is_among names name ≡ true → name_at names (place_of names name) ≡ name
name_at-place_of names name h =
    sym (same_bytes name (name_at names (place_of names name)) (passes_at_first (bytes_eq name) names [] (among_in_range names name h)))

pub among_at : (names : List (List ℕ)) (i : ℕ) → i < length names → is_among names (name_at names i) ≡ true
among_at names i within = list_any_at (bytes_eq (name_at names i)) names i [] within (bytes_refl (name_at names i))

pub or_false_left : (a b : Bool) → (a || b) ≡ false → a ≡ false
or_false_left true b h = absurd (not_true (sym h))
or_false_left false b h = refl

pub or_false_right : (a b : Bool) → (a || b) ≡ false → b ≡ false
or_false_right true b h = absurd (not_true (sym h))
or_false_right false b h = h

-- names that stand at two places are different
different : (names : List (List ℕ)) (k i : ℕ) → has_twice names ≡ false → k < i → i < length names → name_at names k ≡ name_at names i → ⊥
different [] k i h low high e = omega arith
different (x ∷ xs) k zero h low high e = omega arith
different (x ∷ xs) zero (suc i) h low high e =
    both_ways (is_among xs x) (or_false_left (is_among xs x) (has_twice xs) h)
    (subst (λ (y : List ℕ). is_among xs y ≡ true) (sym e) (among_at xs i (omega arith)))
different (x ∷ xs) (suc k) (suc i) h low high e = different xs k i (or_false_right (is_among xs x) (has_twice xs) h) (omega arith) (omega arith) e

unequal : (x y : List ℕ) (b : Bool) → bytes_eq x y ≡ b → (x ≡ y → ⊥) → bytes_eq x y ≡ false
unequal x y true e h = absurd (h (same_bytes x y e))
unequal x y false e h = e

pub place_of-name_at : (names : List (List ℕ)) (i : ℕ) → has_twice names ≡ false → i < length names → place_of names (name_at names i) ≡ i
place_of-name_at names i h within =
    position_or_len_is (bytes_eq (name_at names i)) names i [] (omega arith)
    (λ k below. unequal (name_at names i) (name_at names k) (bytes_eq (name_at names i) (name_at names k)) refl (λ e. different names k i h below within (sym e)))
    (λ w. bytes_refl (name_at names i))

pub same_place : (names : List (List ℕ)) (i j : ℕ) → has_twice names ≡ false → i < length names → j < length names → name_at names i ≡ name_at names j → i ≡ j
same_place names i j h i_in j_in e =
    sym (place_of-name_at names i h i_in) ∙ ap (place_of names) e ∙ place_of-name_at names j h j_in

-- past its end no list of names has a name
empty_is_none : (names : List (List ℕ)) → list_all is_name names ≡ true → is_among names [] ≡ true → ⊥
empty_is_none names named h =
    let at : is_name (name_at names (place_of names [])) ≡ true = AllPass-from_list_all is_name names named (place_of names []) [] (among_in_range names [] h) in
    not_true (subst (λ (x : List ℕ). is_name x ≡ true) (name_at-place_of names [] h) at)

past_end : (names : List (List ℕ)) (i : ℕ) → length names ≤ i → name_at names i ≡ []
past_end [] i h = refl
past_end (x ∷ xs) zero h = absurd (omega arith)
past_end (x ∷ xs) (suc i) h = past_end xs i (omega arith)

in_range_by : (names : List (List ℕ)) (i : ℕ) (o : (i < length names) ⊎ (length names ≤ i)) → list_all is_name names ≡ true → is_among names (name_at names i) ≡ true → i < length names
in_range_by names i (inl h) named a = h
in_range_by names i (inr h) named a = absurd (empty_is_none names named (subst (λ (x : List ℕ). is_among names x ≡ true) (past_end names i h) a))

pub in_range : (names : List (List ℕ)) (i : ℕ) → list_all is_name names ≡ true → is_among names (name_at names i) ≡ true → i < length names
in_range names i named h = in_range_by names i (cases_lt i (length names)) named h

pub twice_from : (names : List (List ℕ)) (i : ℕ) (d : List ℕ) → i < length names → has_twice (drop i names) ≡ (is_among (drop (i + 1) names) (get_or names i d) || has_twice (drop (i + 1) names))
twice_from names i d h = rw (add-one, drop-cons names i d)

-- the place that a search finds, or the end
place_of_search : (m n : ℕ) (b : Bool) → nat_lt m n ≡ b → m ≤ n → unwrap_or (cond b (Some m) None) n ≡ m
place_of_search m n true e h = refl
place_of_search m n false e h = omega (arith, ltb-false m n e)

pub place_from : (names : List (List ℕ)) (name : List ℕ) → unwrap_or (position (bytes_eq name) names) (length names) ≡ place_of names name
place_from names name = place_of_search (place_of names name) (length names) (nat_lt (place_of names name) (length names)) refl (prefix_len-le-length (λ x. not (bytes_eq name x)) names)

-- a place that a search finds is in range
some_below : (m n k : ℕ) (b : Bool) → nat_lt m n ≡ b → cond b (Some m) None ≡ Some k → k < n
some_below m n k true e h = let same : m ≡ k = cc in omega (arith, ltb-true m n e)
some_below m n k false e h = cc

pub found_in_range : (names : List (List ℕ)) (name : List ℕ) (k : ℕ) → position (bytes_eq name) names ≡ Some k → k < length names
found_in_range names name k h = some_below (place_of names name) (length names) k (nat_lt (place_of names name) (length names)) refl h
