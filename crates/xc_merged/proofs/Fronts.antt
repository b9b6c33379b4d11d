-- States in order that have the same first places.
use Rattle.std.proofs.Common.{◌≡◌, ℕ, zero, suc, ◌+◌, ◌-◌, ◌*◌, ◌/◌, ◌%◌, ◌<◌, ◌≤◌, List, [], ◌∷◌, length, get_or, take, drop, refl, sym, ◌∙◌, ap, subst, arith}
use Rattle.std.proofs.lemmas.Nat.{div-mul-add, mod-mul-add, div-add-mod', div_below, mod_below}
use Rattle.xc_theory.specs.Codes.{total, digits}

-- factors of a positive product
pub positive_factors : (a b : ℕ) → 0 < a * b → (0 < a) × (0 < b)
positive_factors zero b h = absurd (omega arith)
positive_factors (suc a) zero h = absurd (omega arith)
positive_factors (suc a) (suc b) h = (omega arith, omega arith)

-- a quotient, and what is left by a product
quotient_is : (q c w r : ℕ) → q * (c * w) + (r / w * w + r % w) ≡ (q * c + r / w) * w + r % w
quotient_is q c w r = grind arith

quotient_split : (x c w : ℕ) → 0 < c → 0 < w → x / w ≡ x / (c * w) * c + x % (c * w) / w
quotient_split x c w hc hw =
    let r = x % (c * w) in
    let q = x / (c * w) in
    let whole : (q * c + r / w) * w + r % w ≡ x = sym (quotient_is q c w r) ∙ ap (λ (n : ℕ). q * (c * w) + n) (div-add-mod' r w) ∙ div-add-mod' x (c * w) in
    ap (λ (n : ℕ). n / w) (sym whole) ∙ div-mul-add (q * c + r / w) w (r % w) (mod_below r w hw)

rest_below : (x c w : ℕ) → 0 < c * w → 0 < w → x % (c * w) / w < c
rest_below x c w h hw = div_below (x % (c * w)) w c hw (mod_below x (c * w) h)

div_div : (x c w : ℕ) → 0 < c * w → x / w / c ≡ x / (c * w)
div_div x c w h =
    let two = positive_factors c w h in
    ap (λ (n : ℕ). n / c) (quotient_split x c w two.0 two.1) ∙ div-mul-add (x / (c * w)) c (x % (c * w) / w) (rest_below x c w h two.1)

div_mod : (x c w : ℕ) → 0 < c * w → x / w % c ≡ x % (c * w) / w
div_mod x c w h =
    let two = positive_factors c w h in
    ap (λ (n : ℕ). n % c) (quotient_split x c w two.0 two.1) ∙ mod-mul-add (x / (c * w)) c (x % (c * w) / w) (rest_below x c w h two.1)

-- the sizes before a place and those from it on
assoc : (a b c : ℕ) → a * (b * c) ≡ a * b * c
assoc a b c = grind arith

pub total_split : (sizes : List ℕ) (d : ℕ) → total sizes ≡ total (take d sizes) * total (drop d sizes)
total_split sizes zero = omega arith
total_split [] (suc d) = refl
total_split (s ∷ sizes) (suc d) = ap (λ (n : ℕ). s * n) (total_split sizes d) ∙ assoc s (total (take d sizes)) (total (drop d sizes))

-- states of the same block have the same first places
pub front : (sizes : List ℕ) (depth k x y : ℕ) → 0 < total sizes → depth ≤ length sizes → k < depth → x / total (drop depth sizes) ≡ y / total (drop depth sizes) → get_or (digits sizes x) k 0 ≡ get_or (digits sizes y) k 0
front sizes zero k x y some within low e = absurd (omega arith)
front [] (suc d) k x y some within low e = absurd (omega arith)
front (s ∷ sizes) (suc d) zero x y some within low e =
    let w = total (drop d sizes) in
    let c = total (take d sizes) in
    let split : total sizes ≡ c * w = total_split sizes d in
    let positive : 0 < c * w = subst (λ (n : ℕ). 0 < n) split (positive_factors s (total sizes) some).1 in
    ap (λ (n : ℕ). x / n) split ∙ sym (div_div x c w positive) ∙ ap (λ (n : ℕ). n / c) e ∙ div_div y c w positive ∙ ap (λ (n : ℕ). y / n) (sym split)
front (s ∷ sizes) (suc d) (suc k) x y some within low e =
    let w = total (drop d sizes) in
    let c = total (take d sizes) in
    let split : total sizes ≡ c * w = total_split sizes d in
    let there : 0 < total sizes = (positive_factors s (total sizes) some).1 in
    let positive : 0 < c * w = subst (λ (n : ℕ). 0 < n) split there in
    front sizes d k (x % total sizes) (y % total sizes) there (omega arith) (omega arith)
    (ap (λ (n : ℕ). x % n / w) split ∙ sym (div_mod x c w positive) ∙ ap (λ (n : ℕ). n % c) e ∙ div_mod y c w positive ∙ ap (λ (n : ℕ). y % n / w) (sym split))

-- the states of a block are those with the same quotient
pub same_quotient : (first s w : ℕ) → first % w ≡ 0 → 0 < w → first ≤ s → s < first + w → s / w ≡ first / w
same_quotient first s w e some low high =
    let whole : first / w * w + first % w ≡ first = div-add-mod' first w in
    let at : first / w * w + (s - first) ≡ s = omega arith in
    ap (λ (n : ℕ). n / w) (sym at) ∙ div-mul-add (first / w) w (s - first) (omega arith)

-- and a block ends within all states
fits : (q w e : ℕ) → q * w + w ≤ (q + 1 + e) * w
fits q w e = grind arith

pub block_fits : (first c w : ℕ) → first % w ≡ 0 → 0 < w → first < c * w → first + w ≤ c * w
block_fits first c w e some h =
    let whole : first / w * w + first % w ≡ first = div-add-mod' first w in
    let below : first / w < c = div_below first w c some h in
    let count : first / w + 1 + (c - (first / w + 1)) ≡ c = omega arith in
    let room : first / w * w + w ≤ c * w = subst (λ (n : ℕ). first / w * w + w ≤ n * w) count (fits (first / w) w (c - (first / w + 1))) in
    omega arith

-- the sizes from the next place on
pub size_next : (sizes : List ℕ) (d s : ℕ) → s ≡ get_or sizes d 0 → d < length sizes → 0 < s → total (drop d sizes) / s ≡ total (drop (d + 1) sizes)
size_next [] d s e low some = absurd (omega arith)
size_next (x ∷ sizes) zero s e low some =
    let exact : total sizes * s + 0 ≡ x * total sizes = rw e (grind arith) in
    ap (λ (n : ℕ). n / s) (sym exact) ∙ div-mul-add (total sizes) s 0 some
size_next (x ∷ sizes) (suc d) s e low some =
    let at : d + 1 ≡ suc d = omega arith in
    let above : suc d + 1 ≡ suc (suc d) = omega arith in
    size_next sizes d s e (omega arith) some ∙ ap (λ (n : ℕ). total (drop n sizes)) at ∙ sym (ap (λ (n : ℕ). total (drop n (x ∷ sizes))) above)
