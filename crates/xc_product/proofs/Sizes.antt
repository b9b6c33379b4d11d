-- The sizes of parts: each at most 64, and what that makes of a product of eight.
use Rattle.std.proofs.Common.{◌≡◌, ℕ, zero, suc, ◌+◌, ◌*◌, ◌/◌, ◌<◌, ◌≤◌, List, [], ◌∷◌, length, get_or, drop, refl, sym, ap, subst, ◌∙◌, arith}
use Rattle.std.proofs.lemmas.List.{drop-map, length-map}
use Rattle.std.proofs.lemmas.Nat.{div-mul-add, mul-le}
use Rattle.std.proofs.Math.Nat.{mul_comm, mul_assoc}
use Rattle.xc_theory.specs.Lattices.{LatticeData, size}
use Rattle.xc_theory.specs.Codes.{total}
use Rattle.xc_alg.specs.Operations.{Operations}
use Rattle.xc_alg.specs.Products.{product, sizes}
use Rattle.xc_alg.specs.AnyTables.{lattice_in_any}
use Rattle.xc_alg.specs.declared.any_table.AnyTable.{AnyTable}
use Rattle.xc_alg.specs.declared.any_table.AnyTable.TheVariants.{T4, T16, T64}
use Rattle.xc_alg.proofs.Products.{product-cons}
use Rattle.xc_alg.proofs.Tables.{product_size}
use Rattle.xc_product.specs.Parts.{lattices, weight, HoldsProduct}
use Rattle.xc_product.specs.Lawful.{lawful_part}
use Rattle.xc_product.proofs.Turns.{from, alone, positive, size_turn, none_size}

pub total_is : (parts : List LatticeData) → (product parts).size ≡ total (sizes parts)
unfolding product
total_is parts = refl

pub small_part : (table : AnyTable) → size (lattice_in_any table) ≤ 64
small_part (T4 table) = omega (arith, table.tells.sized, table.fits, table.small)
small_part (T16 table) = omega (arith, table.tells.sized, table.fits, table.small)
small_part (T64 table) = omega (arith, table.value.tells.sized, table.value.fits, table.value.small)

pub small_sizes : (tables : List AnyTable) (k : ℕ) → get_or (sizes (lattices tables)) k 0 ≤ 64
small_sizes [] k = omega arith
small_sizes (t ∷ tables) zero = small_part t
small_sizes (t ∷ tables) (suc k) = small_sizes tables k

-- 64 times itself so often
most : ℕ → ℕ
most zero = 1
most (suc n) = 64 * most n

size_cons : (t : AnyTable) (tables : List AnyTable) → (product (lattices (t ∷ tables))).size ≡ size (lattice_in_any t) * (product (lattices tables)).size
size_cons t tables = ap (λ (o : Operations). o.size) (product-cons (lattice_in_any t) (lattices tables))

size_most : (n : ℕ) (tables : List AnyTable) → length tables ≤ n → (product (lattices tables)).size ≤ most n
unfolding most
size_most zero [] h = omega (arith, none_size)
size_most (suc n) [] h = omega (arith, none_size, size_most n [] (omega arith))
size_most zero (t ∷ tables) h = absurd (omega arith)
size_most (suc n) (t ∷ tables) h =
    omega (arith, size_cons t tables, mul-le (size (lattice_in_any t)) (product (lattices tables)).size 64 (most n) (small_part t) (size_most n tables (omega arith)))

size_of_eight : (tables : List AnyTable) → length tables ≤ 8 → (product (lattices tables)).size ≤ 281474976710656
unfolding most
size_of_eight tables h = size_most 8 tables h

-- the sizes of the parts up to one multiplied, and those of the parts after it
module _ (tables : List AnyTable) (i : ℕ) (t : AnyTable) (within : i < length tables) (is : t ≡ get_or tables i t) (count s : ℕ) (sized : s ≡ (alone t).size) where
  pub count_more : count * (from tables i).size ≡ total (sizes (lattices tables)) → (count * s) * (from tables (i + 1)).size ≡ total (sizes (lattices tables))
  count_more h = rw sized (mul_assoc count (alone t).size (weight tables i) ∙ (ap (λ (n : ℕ). count * n) (sym (size_turn tables i t within is)) ∙ h))

  pub count_fits : length tables ≤ 8 → count * (from tables i).size ≡ total (sizes (lattices tables)) → count * s ≤ 281474976710656
  count_fits few h =
      omega (arith, mul-le (count * s) 1 (count * s) (from tables (i + 1)).size (omega arith) (positive tables (i + 1)), count_more h, total_is (lattices tables), size_of_eight tables few)

  -- a weight is the one before it by the size of a part
  pub weight_less : (rest : ℕ) → rest ≡ (from tables i).size → rest / s ≡ weight tables i
  weight_less rest h =
      rw (h, size_turn tables i t within is, sized, mul_comm (alone t).size (weight tables i))
      (ap (λ (n : ℕ). n / (alone t).size) (omega arith) ∙ div-mul-add (weight tables i) (alone t).size 0 (omega (arith, product_size (lattice_in_any t), (lawful_part t).1)))

-- what holds of some tables holds of others of the same lattices
same_length : (us ts : List AnyTable) → lattices us ≡ lattices ts → length us ≡ length ts
same_length us ts e = sym (length-map us lattice_in_any) ∙ (ap (λ (parts : List LatticeData). length parts) e ∙ length-map ts lattice_in_any)

same_weight : (us ts : List AnyTable) (k : ℕ) → lattices us ≡ lattices ts → weight us k ≡ weight ts k
same_weight us ts k e =
    ap (λ (parts : List LatticeData). (product parts).size)
    (sym (drop-map lattice_in_any (k + 1) us) ∙ (ap (λ (parts : List LatticeData). drop (k + 1) parts) e ∙ drop-map lattice_in_any (k + 1) ts))

pub holds_of_copy : (us ts : List AnyTable) (weights : List ℕ) (size bottom top : ℕ) → lattices us ≡ lattices ts → HoldsProduct ts weights size bottom top → HoldsProduct us weights size bottom top
holds_of_copy us ts weights size bottom top e h =
    let long = same_length us ts e in
    record {
      several = omega (arith, h.several);
      few = omega (arith, h.few);
      weighted = λ k within. h.weighted k (omega arith) ∙ sym (same_weight us ts k e);
      sized = h.sized ∙ ap (λ (parts : List LatticeData). (product parts).size) (sym e);
      limited = subst (λ (parts : List LatticeData). (product parts).size ≤ 4096) (sym e) h.limited;
      bottom_is = h.bottom_is ∙ ap (λ (parts : List LatticeData). (product parts).bottom) (sym e);
      top_is = h.top_is ∙ ap (λ (parts : List LatticeData). (product parts).top) (sym e);
    }

-- what is found of the tables of a list is what its product keeps
pub holds_of_found : (parts tables : List AnyTable) (weights : List ℕ) (size bottom top : ℕ) → tables ≡ parts → 1 ≤ length parts → length parts ≤ 8
    → size ≡ total (sizes (lattices tables)) → size ≤ 4096 → ((k : ℕ) → k < length tables → get_or weights k 0 ≡ weight tables k)
    → bottom ≡ (product (lattices tables)).bottom → top ≡ (product (lattices tables)).top → HoldsProduct parts weights size bottom top
holds_of_found parts tables weights size bottom top same several few sized limited weighted bottom_is top_is =
    subst (λ (ts : List AnyTable). HoldsProduct ts weights size bottom top) same
    (record {
      several = subst (λ (ts : List AnyTable). 1 ≤ length ts) (sym same) several;
      few = subst (λ (ts : List AnyTable). length ts ≤ 8) (sym same) few;
      weighted = weighted;
      sized = sized ∙ sym (total_is (lattices tables));
      limited = omega (arith, total_is (lattices tables));
      bottom_is = bottom_is;
      top_is = top_is;
    })
