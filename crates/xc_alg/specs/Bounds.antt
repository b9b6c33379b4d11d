-- The bounds of a list of codes, in the order of an algebra.
use Rattle.std.specs.Prelude.{◌≡◌, ◌<◌, ℕ, Bool, true, List, [], ◌∷◌}
use Rattle.std.specs.List.{list_all}
use Rattle.xc_alg.specs.Operations.{Operations}

-- each code is below the size
abbrev pub AreElements : ℕ → List ℕ → Type 0
AreElements size [] = Unit {0}
AreElements size (code ∷ codes) = (code < size) × AreElements size codes

-- whether a is below each of the codes, and whether it is above each of them
abbrev pub is_below_all : Operations → List ℕ → ℕ → Bool
is_below_all o codes a = list_all (λ x. o.below a x) codes

abbrev pub is_above_all : Operations → List ℕ → ℕ → Bool
is_above_all o codes a = list_all (λ x. o.below x a) codes

-- m is the greatest lower bound of the codes
pub record IsMeetOf (o : Operations) (codes : List ℕ) (m : ℕ) : Type 0 where
  pub in_range : m < o.size
  pub lower : is_below_all o codes m ≡ true
  pub greatest : (a : ℕ) → a < o.size → is_below_all o codes a ≡ true → o.below a m ≡ true

-- m is the least upper bound of the codes
pub record IsJoinOf (o : Operations) (codes : List ℕ) (m : ℕ) : Type 0 where
  pub in_range : m < o.size
  pub upper : is_above_all o codes m ≡ true
  pub least : (a : ℕ) → a < o.size → is_above_all o codes a ≡ true → o.below m a ≡ true

-- the codes met one after the other, and joined one after the other
abbrev pub met : Operations → List ℕ → ℕ
met o [] = o.top
met o (code ∷ codes) = o.meet code (met o codes)

abbrev pub joined : Operations → List ℕ → ℕ
joined o [] = o.bottom
joined o (code ∷ codes) = o.join code (joined o codes)
