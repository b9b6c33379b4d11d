-- The height of a pair of algebras is the sum of their heights.
use Rattle.std.proofs.Common.{◌≡◌, ◌≢◌, ℕ, suc, ◌+◌, ◌*◌, ◌/◌, ◌%◌, ◌<◌, ◌≤◌, true, List, [], ◌∷◌, length, inl, inr, refl, sym, ap, subst, ◌∙◌, arith}
use Rattle.std.proofs.lemmas.Bool.{and_parts, and_from, cases_eq}
use Rattle.std.proofs.lemmas.Nat.{div-mul-add, mod-mul-add, mul-add-lt, div-add-mod', div_below, mod_below}
use Rattle.std.proofs.Math.Nat.{mul_comm}
use Rattle.xc_alg.specs.Operations.{Operations, IsAlgebra}
use Rattle.xc_alg.proofs.Pairs.{pair}
use Rattle.xc_fixpoint.specs.Heights.{IsChain, IsHeight}
use Rattle.xc_fixpoint.proofs.Chains.{chain_head}

same_digits : (w a b : ℕ) → a / w ≡ b / w → a % w ≡ b % w → a ≡ b
same_digits w a b high low = sym (div-add-mod' a w) ∙ (ap (λ (x : ℕ). x * w + a % w) high ∙ (ap (λ (x : ℕ). b / w * w + x) low ∙ div-add-mod' b w))

same_high : (w a b c : ℕ) → c < w → a * w + c ≡ b * w + c → a ≡ b
same_high w a b c low e = sym (div-mul-add a w c low) ∙ (ap (λ (x : ℕ). x / w) e ∙ div-mul-add b w c low)

-- a chain from an element that is below, a step longer if the element is another
before_chain : (o : Operations) (a b : ℕ) (xs : List ℕ) → a < o.size → o.below a b ≡ true → IsChain o (b ∷ xs) → (ys : List ℕ) × IsChain o (a ∷ ys) × (length xs ≤ length ys) × (a ≢ b → length xs < length ys)
before_chain o a b xs ha below chain =
    elim (cases_eq a b) [
      | inl same ↦ (xs, subst (λ (x : ℕ). IsChain o (x ∷ xs)) (sym same) chain, omega arith, λ apart. absurd (apart same))
      | inr apart ↦ (b ∷ xs, (ha, below, apart, chain), omega arith, λ other. omega arith)
    ]

module _ (p q : Operations) (lp : IsAlgebra p) (lq : IsAlgebra q) where
  positive : 0 < q.size
  positive = omega (arith, lq.bottom_in_range)

  high : (a : ℕ) → a < p.size * q.size → a / q.size < p.size
  high a h = div_below a q.size p.size positive h

  low : (a : ℕ) → a % q.size < q.size
  low a = mod_below a q.size positive

  place : (h l : ℕ) → h < p.size → l < q.size → h * q.size + l < p.size * q.size
  place h l hh hl = rw (mul_comm p.size q.size) (mul-add-lt h q.size l p.size hh hl)

  below_place : (h l m n : ℕ) → l < q.size → n < q.size → p.below h m ≡ true → q.below l n ≡ true → (pair p q).below (h * q.size + l) (m * q.size + n) ≡ true
  below_place h l m n hl hn x y =
      rw (div-mul-add h q.size l hl, mod-mul-add h q.size l hl, div-mul-add m q.size n hn, mod-mul-add m q.size n hn) (and_from (p.below h m) (q.below l n) x y)

  -- the digits of a chain's elements are chains that have its steps between them
  digit_chains : (z : ℕ) (zs : List ℕ) → IsChain (pair p q) (z ∷ zs) → (xs : List ℕ) × (ys : List ℕ) × IsChain p (z / q.size ∷ xs) × IsChain q (z % q.size ∷ ys) × (length zs ≤ length xs + length ys)
  digit_chains z [] h = ([], [], high z h, low z, omega arith)
  digit_chains z (y ∷ rest) h =
      let later = digit_chains y rest h.3 in
      let both = and_parts (p.below (z / q.size) (y / q.size)) (q.below (z % q.size) (y % q.size)) h.1 in
      let first = before_chain p (z / q.size) (y / q.size) later.0 (high z h.0) both.0 later.2 in
      let second = before_chain q (z % q.size) (y % q.size) later.1 (low z) both.1 later.3 in
      let longer : suc (length rest) ≤ length first.0 + length second.0 =
      elim (cases_eq (z / q.size) (y / q.size)) [
        | inr apart ↦ omega (arith, first.3 apart, second.2, later.4)
        | inl same ↦ omega (arith, first.2, second.3 (λ other. h.2 (same_digits q.size z y same other)), later.4)
      ] in
      (first.0, second.0, first.1, second.1, longer)

  -- up the second digit, and before that up the first
  row_chain : (x y : ℕ) (ys : List ℕ) → x < p.size → IsChain q (y ∷ ys) → (zs : List ℕ) × IsChain (pair p q) ((x * q.size + y) ∷ zs) × (length zs ≡ length ys)
  row_chain x y [] hx h = ([], place x y hx h, refl)
  row_chain x y (next ∷ rest) hx h =
      let later = row_chain x next rest hx h.3 in (
        (x * q.size + next) ∷ later.0,
        (place x y hx h.0, below_place x y x next h.0 (chain_head q next rest h.3) (lp.reflexive x hx) h.1, (λ e. h.2 (omega (arith, e))), later.1),
        ap suc later.2,
      )

  grid_chain : (x : ℕ) (xs : List ℕ) (y : ℕ) (ys : List ℕ) → IsChain p (x ∷ xs) → IsChain q (y ∷ ys) → (zs : List ℕ) × IsChain (pair p q) ((x * q.size + y) ∷ zs) × (length zs ≡ length xs + length ys)
  grid_chain x [] y ys h k = let row = row_chain x y ys h k in (row.0, row.1, omega (arith, row.2))
  grid_chain x (next ∷ rest) y ys h k =
      let later = grid_chain next rest y ys h.3 k in
      let hy = chain_head q y ys k in (
        (next * q.size + y) ∷ later.0,
        (place x y h.0 hy, below_place x y next y hy hy h.1 (lq.reflexive y hy), (λ e. h.2 (same_high q.size x next y hy e)), later.1),
        omega (arith, later.2),
      )

  longest : (a b : ℕ) (xs ys : List ℕ) → IsChain p xs → IsChain q ys → length xs ≡ a + 1 → length ys ≡ b + 1 → (zs : List ℕ) × IsChain (pair p q) zs × (length zs ≡ a + b + 1)
  longest a b [] ys hx hy ex ey = absurd (omega arith)
  longest a b (x ∷ xs) [] hx hy ex ey = absurd (omega arith)
  longest a b (x ∷ xs) (y ∷ ys) hx hy ex ey = let grid = grid_chain x xs y ys hx hy in ((x * q.size + y) ∷ grid.0, grid.1, omega (arith, grid.2))

  none_longer : (a b : ℕ) → IsHeight p a → IsHeight q b → (zs : List ℕ) → IsChain (pair p q) zs → length zs ≤ a + b + 1
  none_longer a b hp hq [] h = omega arith
  none_longer a b hp hq (z ∷ zs) h =
      let digits = digit_chains z zs h in
      omega (arith, digits.4, hp.greatest (z / q.size ∷ digits.0) digits.2, hq.greatest (z % q.size ∷ digits.1) digits.3)

  pub pair_height : (a b : ℕ) → IsHeight p a → IsHeight q b → IsHeight (pair p q) (a + b)
  pair_height a b hp hq =
      let chain = longest a b hp.chain hq.chain hp.is_chain hq.is_chain hp.reached hq.reached in
      record { chain = chain.0; is_chain = chain.1; reached = chain.2; greatest = none_longer a b hp hq }
