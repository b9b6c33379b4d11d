-- The elements of a first break are elements.
use Rattle.std.proofs.Common.{◌≡◌, ℕ, zero, suc, ◌+◌, ◌<◌, Bool, true, false, cond, List, [], ◌∷◌, ◌++◌, Option, Some, None, length, map, get_or, ◌⊎◌, inl, inr, refl, subst, ap, arith}
use Rattle.std.specs.List.{find, flat_map, range_with_len, All}
use Rattle.xc_theory.specs.Lattices.{LatticeData, size}
use Rattle.xc_laws.specs.declared.breaks.Break.{Break}
use Rattle.xc_laws.specs.declared.law.Law.{Law}
use Rattle.xc_laws.specs.Breaks.{laws, arity, tuples, breaks, first_tuple, or_next, first_of, first_break}
use Rattle.xc_lattice.proofs.Drafts.{Has}

-- each number of the list is below n
abbrev AreLow : ℕ → List ℕ → Type 0
AreLow n [] = Unit {0}
AreLow n (x ∷ xs) = (x < n) × AreLow n xs

AreLow-at : (n : ℕ) (xs : List ℕ) → AreLow n xs → (k : ℕ) (d : ℕ) → k < length xs → get_or xs k d < n
AreLow-at n [] h k d within = absurd (omega arith)
AreLow-at n (x ∷ xs) h zero d within = h.0
AreLow-at n (x ∷ xs) h (suc k) d within = AreLow-at n xs h.1 k d (omega arith)

-- what stands in a list that is put together
Has-append : {X : Type 0} (xs ys : List X) (y : X) → Has (xs ++ ys) y → Has xs y ⊎ Has ys y
Has-append [] ys y h = inr h
Has-append (x ∷ xs) ys y (inl e) = inl (inl e)
Has-append (x ∷ xs) ys y (inr h) = elim (Has-append xs ys y h) as (λ _. Has (x ∷ xs) y ⊎ Has ys y) [ inl a ↦ inl (inr a) | inr b ↦ inr b ]

Has-map : {X Y : Type 0} (f : X → Y) (xs : List X) (y : Y) → Has (map f xs) y → (x : X) × (Has xs x) × (f x ≡ y)
Has-map f [] y h = absurd h
Has-map f (x ∷ xs) y (inl e) = (x, inl refl, e)
Has-map f (x ∷ xs) y (inr h) = let rest = Has-map f xs y h in (rest.0, inr rest.1, rest.2)

Has-flat_map : {X Y : Type 0} (f : X → List Y) (xs : List X) (y : Y) → Has (flat_map f xs) y → (x : X) × (Has xs x) × (Has (f x) y)
Has-flat_map f [] y h = absurd h
Has-flat_map f (x ∷ xs) y h =
    elim (Has-append (f x) (flat_map f xs) y h) as (λ _. (z : _) × (Has (x ∷ xs) z) × (Has (f z) y)) [
      | inl a ↦ (x, inl refl, a)
      | inr b ↦ let rest = Has-flat_map f xs y b in (rest.0, inr rest.1, rest.2)
    ]

Has-range : (a n x : ℕ) → Has (range_with_len a n) x → x < a + n
Has-range a zero x h = absurd h
Has-range a (suc n) x (inl e) = omega arith
Has-range a (suc n) x (inr h) = omega (arith, Has-range (a + 1) n x h)

tuples_are_low : (n k : ℕ) (t : List ℕ) → Has (tuples n k) t → AreLow n t
unfolding tuples
tuples_are_low n zero t (inl e) = subst (AreLow n) e tt
tuples_are_low n zero t (inr h) = absurd h
tuples_are_low n (suc k) t h =
    let at = Has-flat_map (λ a. map (λ t. a ∷ t) (tuples n k)) (range_with_len 0 n) t h in
    let of = Has-map (λ t. at.0 ∷ t) (tuples n k) t at.2 in
    subst (AreLow n) of.2 (omega (arith, Has-range 0 n at.0 at.1), tuples_are_low n k of.0 of.1)

none_is_not : {X : Type 0} (x : X) → None ≡ Some x → ⊥
none_is_not x h = cc

found_cond : {X : Type 0} (b : Bool) (x t : X) (rest : Option X) → cond b (Some x) rest ≡ Some t → (x ≡ t) ⊎ (rest ≡ Some t)
found_cond true x t rest h = inl (cc)
found_cond false x t rest h = inr h

Has-found : {X : Type 0} (p : X → Bool) (xs : List X) (t : X) → find p xs ≡ Some t → Has xs t
Has-found p [] t h = none_is_not t h
Has-found p (x ∷ xs) t h =
    elim (found_cond (p x) x t (find p xs) h) as (λ _. Has (x ∷ xs) t) [ inl e ↦ inl e | inr k ↦ inr (Has-found p xs t k) ]

first_tuple_is_low : (l : LatticeData) (law : Law) (t : List ℕ) → first_tuple l law ≡ Some t → AreLow (size l) t
unfolding first_tuple
first_tuple_is_low l law t h = tuples_are_low (size l) (arity law) t (Has-found (breaks l law) (tuples (size l) (arity law)) t h)

some_break : (a b : Break) → Some a ≡ Some b → a ≡ b
some_break a b h = cc

next_is_low : (l : LatticeData) (law : Law) (o : Option (List ℕ)) (next : Option Break) (b : Break) → first_tuple l law ≡ o → or_next o law next ≡ Some b
    → (next ≡ Some b → AreLow (size l) b.elements) → AreLow (size l) b.elements
next_is_low l law (Some t) next b e h rest =
    let same : t ≡ b.elements = ap (λ (x : Break). x.elements) (some_break (record { law = law; elements = t }) b h) in
    subst (AreLow (size l)) same (first_tuple_is_low l law t e)
next_is_low l law None next b e h rest = rest h

first_is_low : (l : LatticeData) (all : List Law) (b : Break) → first_of l all ≡ Some b → AreLow (size l) b.elements
first_is_low l [] b h = absurd (none_is_not b h)
first_is_low l (law ∷ more) b h = next_is_low l law (first_tuple l law) (first_of l more) b refl h (first_is_low l more b)

pub break_in_range : (l : LatticeData) (b : Break) → first_break l ≡ Some b → All (λ a. a < size l) b.elements
unfolding first_break
break_in_range l b h = AreLow-at (size l) b.elements (first_is_low l laws b h)
