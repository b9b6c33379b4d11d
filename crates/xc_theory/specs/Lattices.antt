-- Lattice data, and the laws by which they are a finite quasi-Boolean algebra.
use Rattle.std.specs.Prelude.{◌≡◌, ◌<◌, ℕ, Bool, true, List, [], ◌∷◌, length, slice_index}
use Rattle.xc_theory.specs.Orders.{is_below, IsSquare}
use Rattle.xc_theory.specs.Bounds.{IsMeet, IsJoin, meet_of, join_of}

-- an order table, and the negation of each element
pub record LatticeData : Type 0 where
  pub order : List (List Bool)
  pub negations : List ℕ

abbrev pub size : LatticeData → ℕ
size l = length l.order

abbrev pub below : LatticeData → ℕ → ℕ → Bool
below l a b = is_below l.order a b

abbrev pub meet : LatticeData → ℕ → ℕ → ℕ
meet l a b = meet_of l.order (a ∷ b ∷ [])

abbrev pub join : LatticeData → ℕ → ℕ → ℕ
join l a b = join_of l.order (a ∷ b ∷ [])

abbrev pub negation : LatticeData → ℕ → ℕ
negation l a = slice_index l.negations a

-- the bounds of no element: the element above all, and the one below all
abbrev pub top : LatticeData → ℕ
top l = meet_of l.order []

abbrev pub bottom : LatticeData → ℕ
bottom l = join_of l.order []

-- Data with a square order table and a negation in range for each element.
pub record IsWellShaped (l : LatticeData) : Type 0 where
  pub square : IsSquare (size l) l.order
  pub negations : length l.negations ≡ size l
  pub in_range : (a : ℕ) → a < size l → negation l a < size l

-- An order with bounds of all pairs that distribute, and a negation that undoes itself and reverses the order.
pub record IsLawful (l : LatticeData) : Type 0 where
  pub shape : IsWellShaped l
  pub reflexive : (a : ℕ) → a < size l → below l a a ≡ true
  pub transitive : (a b c : ℕ) → a < size l → b < size l → c < size l → below l a b ≡ true → below l b c ≡ true → below l a c ≡ true
  pub antisymmetric : (a b : ℕ) → a < size l → b < size l → below l a b ≡ true → below l b a ≡ true → a ≡ b
  pub meets : (a b : ℕ) → a < size l → b < size l → IsMeet l.order (a ∷ b ∷ []) (meet l a b)
  pub joins : (a b : ℕ) → a < size l → b < size l → IsJoin l.order (a ∷ b ∷ []) (join l a b)
  pub distributive : (a b c : ℕ) → a < size l → b < size l → c < size l → meet l a (join l b c) ≡ join l (meet l a b) (meet l a c)
  pub involution : (a : ℕ) → a < size l → negation l (negation l a) ≡ a
  pub antitone : (a b : ℕ) → a < size l → b < size l → below l a b ≡ true → below l (negation l b) (negation l a) ≡ true
