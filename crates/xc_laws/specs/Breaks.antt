-- Which law of a lattice fails first, and at which elements.
use Rattle.std.specs.Prelude.{ℕ, suc, zero, Bool, false, ◌==◌, ◌&&◌, not, List, [], ◌∷◌, map, find, Option, Some, None, is_none}
use Rattle.std.specs.List.{flat_map, range_with_len}
use Rattle.xc_theory.specs.Bounds.{first_meet, first_join}
use Rattle.xc_theory.specs.Lattices.{LatticeData, size, below, meet, join, negation}
use Rattle.xc_laws.specs.declared.breaks.Break.{Break}
use Rattle.xc_laws.specs.declared.law.Law.{Law}
use Rattle.xc_laws.specs.declared.law.Law.TheVariants.{Antisymmetry, Meet, Join, Distributive, Involution, Antitone}

-- the laws, in the order in which they are looked at
abbrev pub laws : List Law
laws = Antisymmetry ∷ Meet ∷ Join ∷ Distributive ∷ Involution ∷ Antitone ∷ []

-- of how many elements a law speaks
abbrev pub arity : Law → ℕ
arity Distributive = 3
arity Involution = 1
arity _ = 2

-- the tuples of k elements below n, the first place slowest
unfoldable pub tuples : ℕ → ℕ → List (List ℕ)
tuples n zero = [] ∷ []
tuples n (suc k) = flat_map (λ a. map (λ t. a ∷ t) (tuples n k)) (range_with_len 0 n)

-- Whether the elements break the law. Distribution is only looked at where all pairs have bounds.
abbrev pub breaks : LatticeData → Law → List ℕ → Bool
breaks l Antisymmetry (a ∷ b ∷ []) = not (a == b) && below l a b && below l b a
breaks l Meet (a ∷ b ∷ []) = is_none (first_meet l.order (a ∷ b ∷ []))
breaks l Join (a ∷ b ∷ []) = is_none (first_join l.order (a ∷ b ∷ []))
breaks l Distributive (a ∷ b ∷ c ∷ []) = not (meet l a (join l b c) == join l (meet l a b) (meet l a c))
breaks l Involution (a ∷ []) = not (negation l (negation l a) == a)
breaks l Antitone (a ∷ b ∷ []) = below l a b && not (below l (negation l b) (negation l a))
breaks l _ _ = false

-- the first tuple of elements that breaks the law
unfoldable pub first_tuple : LatticeData → Law → Option (List ℕ)
first_tuple l law = find (breaks l law) (tuples (size l) (arity law))

abbrev pub or_next : Option (List ℕ) → Law → Option Break → Option Break
or_next (Some t) law next = Some (record { law = law; elements = t })
or_next None law next = next

-- the first of the laws that some tuple breaks, with its first tuple
abbrev pub first_of : LatticeData → List Law → Option Break
first_of l [] = None
first_of l (law ∷ more) = or_next (first_tuple l law) law (first_of l more)

unfoldable pub first_break : LatticeData → Option Break
first_break l = first_of l laws
