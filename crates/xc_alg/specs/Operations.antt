-- The operations of an algebra on the codes 0 to size - 1, and the laws that make it a quasi-Boolean algebra.
use Rattle.std.specs.Prelude.{◌≡◌, ◌<◌, ℕ, Bool, true}

pub record Operations : Type 0 where
  pub size : ℕ
  pub below : ℕ → ℕ → Bool
  pub meet : ℕ → ℕ → ℕ
  pub join : ℕ → ℕ → ℕ
  pub negation : ℕ → ℕ
  pub bottom : ℕ
  pub top : ℕ

-- Every law that algebras have follows from these.
pub record IsAlgebra (o : Operations) : Type 0 where
  -- below is an order
  pub reflexive : (a : ℕ) → a < o.size → o.below a a ≡ true
  pub transitive : (a b c : ℕ) → a < o.size → b < o.size → c < o.size → o.below a b ≡ true → o.below b c ≡ true → o.below a c ≡ true
  pub antisymmetric : (a b : ℕ) → a < o.size → b < o.size → o.below a b ≡ true → o.below b a ≡ true → a ≡ b
  -- the meet of two is their greatest lower bound
  pub meet_in_range : (a b : ℕ) → a < o.size → b < o.size → o.meet a b < o.size
  pub meet_below_left : (a b : ℕ) → a < o.size → b < o.size → o.below (o.meet a b) a ≡ true
  pub meet_below_right : (a b : ℕ) → a < o.size → b < o.size → o.below (o.meet a b) b ≡ true
  pub meet_greatest : (a b c : ℕ) → a < o.size → b < o.size → c < o.size → o.below c a ≡ true → o.below c b ≡ true → o.below c (o.meet a b) ≡ true
  -- the join of two is their least upper bound
  pub join_in_range : (a b : ℕ) → a < o.size → b < o.size → o.join a b < o.size
  pub join_above_left : (a b : ℕ) → a < o.size → b < o.size → o.below a (o.join a b) ≡ true
  pub join_above_right : (a b : ℕ) → a < o.size → b < o.size → o.below b (o.join a b) ≡ true
  pub join_least : (a b c : ℕ) → a < o.size → b < o.size → c < o.size → o.below a c ≡ true → o.below b c ≡ true → o.below (o.join a b) c ≡ true
  pub distributive : (a b c : ℕ) → a < o.size → b < o.size → c < o.size → o.meet a (o.join b c) ≡ o.join (o.meet a b) (o.meet a c)
  -- negating twice changes nothing, and negating reverses the order
  pub negation_in_range : (a : ℕ) → a < o.size → o.negation a < o.size
  pub involution : (a : ℕ) → a < o.size → o.negation (o.negation a) ≡ a
  pub antitone : (a b : ℕ) → a < o.size → b < o.size → o.below a b ≡ true → o.below (o.negation b) (o.negation a) ≡ true
  -- the bottom is below all, the top above all
  pub bottom_in_range : o.bottom < o.size
  pub bottom_below : (a : ℕ) → a < o.size → o.below o.bottom a ≡ true
  pub top_in_range : o.top < o.size
  pub top_above : (a : ℕ) → a < o.size → o.below a o.top ≡ true
