-- Codes and their digits, one part after the other.
use Rattle.std.proofs.Common.{◌≡◌, ℕ, zero, suc, ◌+◌, ◌*◌, ◌/◌, ◌%◌, ◌<◌, ◌≤◌, List, [], ◌∷◌, length, get_or, set, map, drop, refl, sym, ap, ◌∙◌, add-one, drop-cons, arith}
use Rattle.xc_theory.specs.Bounds.{join_of}
use Rattle.xc_theory.specs.Lattices.{LatticeData, size, bottom}
use Rattle.xc_theory.specs.Codes.{total, digits, code_of, AreDigits}
use Rattle.xc_theory.proofs.Bounds.{join_of_lt}
use Rattle.xc_theory.proofs.Codes.{digits_are_in_range, codes_are_in_range}
use Rattle.xc_alg.specs.Products.{product, sizes, bound_digits}
use Rattle.xc_alg.specs.AnyTables.{lattice_in_any}
use Rattle.xc_alg.specs.declared.any_table.AnyTable.{AnyTable}
use Rattle.xc_alg.proofs.Tables.{product_bottom}
use Rattle.xc_product.specs.Parts.{lattices, weight}
use Rattle.xc_product.specs.Lawful.{lawful_part}
use Rattle.xc_product.proofs.Turns.{alone, item, next}
use Rattle.xc_product.proofs.Sizes.{total_is}

-- the digits of the code that is left at a part, and those of the code that it leaves for the parts after it
pub digits_turn : (tables : List AnyTable) (i : ℕ) (t : AnyTable) (code : ℕ) → i < length tables → t ≡ get_or tables i t
    → digits (sizes (lattices (drop i tables))) code ≡ code / weight tables i ∷ digits (sizes (lattices (drop (i + 1) tables))) (code % weight tables i)
digits_turn tables i t code within is =
    ap (λ (ts : List AnyTable). digits (sizes (lattices ts)) code) (next tables i t within is)
    ∙ ap (λ (w : ℕ). code / w ∷ digits (sizes (lattices (drop (i + 1) tables))) (code % w)) (sym (total_is (lattices (drop (i + 1) tables))))

-- what the digits of a code are from the next part on, and what the digit of this part is
module _ (tables : List AnyTable) (i code rest : ℕ) (within : i < length tables)
    (left : (k : ℕ) → get_or (digits (sizes (lattices tables)) code) (i + k) 0 ≡ get_or (digits (sizes (lattices (drop i tables))) rest) k 0) where
  turned : digits (sizes (lattices (drop i tables))) rest ≡ rest / weight tables i ∷ digits (sizes (lattices (drop (i + 1) tables))) (rest % weight tables i)
  turned = let t = item tables i within in digits_turn tables i t.0 rest within t.1

  pub digits_next : (new : ℕ) → new ≡ rest % weight tables i → (k : ℕ) → get_or (digits (sizes (lattices tables)) code) (i + 1 + k) 0 ≡ get_or (digits (sizes (lattices (drop (i + 1) tables))) new) k 0
  digits_next new e k =
      let place : i + 1 + k ≡ i + suc k = omega arith in
      ap (λ (n : ℕ). get_or (digits (sizes (lattices tables)) code) n 0) place
      ∙ (left (suc k)
      ∙ (ap (λ (row : List ℕ). get_or row (suc k) 0) turned
      ∙ ap (λ (c : ℕ). get_or (digits (sizes (lattices (drop (i + 1) tables))) c) k 0) (sym e)))

  pub digit_here : (part digit : ℕ) → i ≡ part → digit ≡ rest / weight tables part → digit ≡ get_or (digits (sizes (lattices tables)) code) part 0
  digit_here part digit same e =
      let place : i + 0 ≡ i = omega arith in
      e ∙ (ap (λ (n : ℕ). rest / weight tables n) (sym same)
      ∙ (sym (ap (λ (row : List ℕ). get_or row 0 0) turned)
      ∙ (sym (left 0) ∙ (ap (λ (n : ℕ). get_or (digits (sizes (lattices tables)) code) n 0) place ∙ ap (λ (n : ℕ). get_or (digits (sizes (lattices tables)) code) n 0) same))))

digit_below : (sizes row : List ℕ) (k : ℕ) → AreDigits sizes row → k < length sizes → get_or row k 0 < get_or sizes k 0
digit_below [] row k h within = absurd (omega arith)
digit_below (size ∷ sizes) [] k h within = absurd h
digit_below (size ∷ sizes) (digit ∷ row) zero h within = h.0
digit_below (size ∷ sizes) (digit ∷ row) (suc k) h within = digit_below sizes row k h.1 (omega arith)

sizes-length : (tables : List AnyTable) → length (sizes (lattices tables)) ≡ length tables
sizes-length [] = refl
sizes-length (t ∷ tables) = ap suc (sizes-length tables)

pub digit_within : (tables : List AnyTable) (code k : ℕ) → code < (product (lattices tables)).size → k < length tables → get_or (digits (sizes (lattices tables)) code) k 0 < get_or (sizes (lattices tables)) k 0
digit_within tables code k h within =
    digit_below (sizes (lattices tables)) (digits (sizes (lattices tables)) code) k
    (digits_are_in_range (sizes (lattices tables)) code (omega (arith, total_is (lattices tables)))) (omega (arith, sizes-length tables))

-- the code of the digits from a part on
pub code_turn : (tables : List AnyTable) (i w : ℕ) (row : List ℕ) → i < length tables → w ≡ weight tables i → i < length row
    → get_or row i 0 * w + code_of (sizes (lattices (drop (i + 1) tables))) (drop (i + 1) row) ≡ code_of (sizes (lattices (drop i tables))) (drop i row)
code_turn tables i w row within weighs inside =
    let t = item tables i within in
    let row_next : drop i row ≡ get_or row i 0 ∷ drop (i + 1) row = drop-cons row i 0 inside ∙ ap (λ (n : ℕ). get_or row i 0 ∷ drop n row) (sym (add-one i)) in
    sym
    (ap (λ (ts : List AnyTable). code_of (sizes (lattices ts)) (drop i row)) (next tables i t.0 within t.1)
    ∙ (ap (λ (r : List ℕ). code_of (size (lattice_in_any t.0) ∷ sizes (lattices (drop (i + 1) tables))) r) row_next
    ∙ ap (λ (n : ℕ). get_or row i 0 * n + code_of (sizes (lattices (drop (i + 1) tables))) (drop (i + 1) row)) (sym (total_is (lattices (drop (i + 1) tables))) ∙ sym weighs)))

pub code_within : (tables : List AnyTable) (row : List ℕ) → AreDigits (sizes (lattices tables)) row → code_of (sizes (lattices tables)) row < (product (lattices tables)).size
code_within tables row h = omega (arith, codes_are_in_range (sizes (lattices tables)) row h, total_is (lattices tables))

pub code_past : (tables : List AnyTable) (n : ℕ) (row : List ℕ) → length tables ≤ n → code_of (sizes (lattices (drop n tables))) row ≡ 0
code_past [] zero row h = refl
code_past [] (suc n) row h = refl
code_past (t ∷ tables) zero row h = absurd (omega arith)
code_past (t ∷ tables) (suc n) row h = code_past tables n row (omega arith)

-- there is one digit for each part
pub digits-length : (tables : List AnyTable) (row : List ℕ) → AreDigits (sizes (lattices tables)) row → length row ≡ length tables
digits-length [] [] h = refl
digits-length [] (digit ∷ row) h = absurd h
digits-length (t ∷ tables) [] h = absurd h
digits-length (t ∷ tables) (digit ∷ row) h = ap suc (digits-length tables row h.1)

-- the bottoms of the parts

abbrev pub bottoms : List AnyTable → List ℕ
bottoms tables = map bottom (lattices tables)

bottom_digits : (parts : List LatticeData) → bound_digits (λ l row. join_of l.order row) parts [] ≡ map bottom parts
bottom_digits [] = refl
bottom_digits (l ∷ parts) = ap (λ (row : List ℕ). bottom l ∷ row) (bottom_digits parts)

pub bottom_code : (tables : List AnyTable) → (product (lattices tables)).bottom ≡ code_of (sizes (lattices tables)) (bottoms tables)
unfolding product
bottom_code tables = ap (λ (row : List ℕ). code_of (sizes (lattices tables)) row) (bottom_digits (lattices tables))

-- how many codes the tables after place k have
abbrev after : List AnyTable → ℕ → ℕ
after tables k = total (sizes (lattices (drop (suc k) tables)))

-- a bottom at its place is no more than the code, and another digit in its place is that much more
embedded : (tables : List AnyTable) (k value : ℕ) (t : AnyTable) → k < length tables → t ≡ get_or tables k t
    → (bottom (lattice_in_any t) * after tables k ≤ code_of (sizes (lattices tables)) (bottoms tables))
    × (code_of (sizes (lattices tables)) (set (bottoms tables) k value) + bottom (lattice_in_any t) * after tables k ≡ code_of (sizes (lattices tables)) (bottoms tables) + value * after tables k)
embedded [] k value t h is = absurd (omega arith)
embedded (x ∷ tables) zero value t h is =
    let same : bottom (lattice_in_any t) ≡ bottom (lattice_in_any x) = ap (λ (y : AnyTable). bottom (lattice_in_any y)) is in
    (rw same (omega arith), rw same (omega arith))
embedded (x ∷ tables) (suc k) value t h is =
    let rest = embedded tables k value t (omega arith) is in
    (omega (arith, rest.0), omega (arith, rest.1))

pub weight-after : (tables : List AnyTable) (k : ℕ) → weight tables k ≡ total (sizes (lattices (drop (suc k) tables)))
weight-after tables k = total_is (lattices (drop (k + 1) tables)) ∙ ap (λ (n : ℕ). total (sizes (lattices (drop n tables)))) (add-one k)

bottoms-are_digits : (tables : List AnyTable) → AreDigits (sizes (lattices tables)) (bottoms tables)
bottoms-are_digits [] = tt
bottoms-are_digits (x ∷ tables) = (join_of_lt (lattice_in_any x).order [] (omega (arith, (lawful_part x).1)), bottoms-are_digits tables)

-- digits of which one is an element and the others are bottoms
embedded-are_digits : (tables : List AnyTable) (k value : ℕ) → k < length tables → value < get_or (sizes (lattices tables)) k 0 → AreDigits (sizes (lattices tables)) (set (bottoms tables) k value)
embedded-are_digits [] k value h within = absurd (omega arith)
embedded-are_digits (x ∷ tables) zero value h within = (within, bottoms-are_digits tables)
embedded-are_digits (x ∷ tables) (suc k) value h within =
    (join_of_lt (lattice_in_any x).order [] (omega (arith, (lawful_part x).1)), embedded-are_digits tables k value (omega arith) within)

module _ (tables : List AnyTable) (k value : ℕ) (t : AnyTable) (b w all : ℕ)
    (inside : k < length tables) (is : t ≡ get_or tables k t) (bottom_is : b ≡ (alone t).bottom) (weighs : w ≡ weight tables k) (all_is : all ≡ (product (lattices tables)).bottom) where
  part_bottom : b ≡ bottom (lattice_in_any t)
  part_bottom = bottom_is ∙ product_bottom (lattice_in_any t)

  pub bottom_at : b * w ≤ all
  bottom_at = rw (part_bottom, weighs, weight-after tables k, all_is, bottom_code tables) (embedded tables k value t inside is).0

  pub embed_code : code_of (sizes (lattices tables)) (set (bottoms tables) k value) + b * w ≡ all + value * w
  embed_code = rw (part_bottom, weighs, weight-after tables k, all_is, bottom_code tables) (embedded tables k value t inside is).1

  pub embed_within : value < get_or (sizes (lattices tables)) k 0 → code_of (sizes (lattices tables)) (set (bottoms tables) k value) < (product (lattices tables)).size
  embed_within within =
      rw (total_is (lattices tables)) (codes_are_in_range (sizes (lattices tables)) (set (bottoms tables) k value) (embedded-are_digits tables k value inside within))
