-- One turn of a loop over the parts: a digit of one part, and the rest, which is a code of the parts after it.
use Rattle.std.proofs.Common.{◌≡◌, ℕ, zero, suc, ◌+◌, ◌*◌, ◌/◌, ◌%◌, ◌<◌, ◌≤◌, Bool, true, ◌&&◌, List, [], ◌∷◌, length, get_or, drop, refl, sym, ap, subst, ◌∙◌, add-one, drop-cons, arith}
use Rattle.std.proofs.lemmas.Nat.{div_below, mod_below}
use Rattle.xc_theory.specs.Lattices.{LatticeData}
use Rattle.xc_alg.specs.Operations.{Operations}
use Rattle.xc_alg.specs.Products.{product}
use Rattle.xc_alg.specs.AnyTables.{lattice_in_any}
use Rattle.xc_alg.specs.declared.any_table.AnyTable.{AnyTable}
use Rattle.xc_alg.proofs.Pairs.{pair}
use Rattle.xc_alg.proofs.Parts.{single}
use Rattle.xc_alg.proofs.Products.{product-cons}
use Rattle.xc_alg.proofs.Tables.{product_size, product_below, product_meet, product_join, product_negation, product_bottom, product_top}
use Rattle.xc_product.specs.Bounds.{bound_of, bound_of_none}
use Rattle.xc_product.specs.Parts.{lattices, weight}
use Rattle.xc_product.specs.declared.bounds.Bound.{Bound}
use Rattle.xc_product.specs.declared.bounds.Bound.TheVariants.{Meet, Join}
use Rattle.xc_product.specs.Lawful.{lawful_product}

-- the operations of the parts from a part on
abbrev pub from : List AnyTable → ℕ → Operations
from tables i = product (lattices (drop i tables))

-- the operations of one part
abbrev pub alone : AnyTable → Operations
alone t = product (lattice_in_any t ∷ [])

-- of no part
pub past : (tables : List AnyTable) (n : ℕ) → length tables ≤ n → from tables n ≡ product []
past [] zero h = refl
past [] (suc n) h = refl
past (t ∷ tables) zero h = absurd (omega arith)
past (t ∷ tables) (suc n) h = past tables n (omega arith)

none_bound : (which : Bound) (a b : ℕ) → bound_of which (product []) a b ≡ 0
unfolding product
none_bound Meet a b = refl
none_bound Join a b = refl

none_negation : (a : ℕ) → (product []).negation a ≡ 0
unfolding product
none_negation a = refl

none_below : (a b : ℕ) → (product []).below a b ≡ true
unfolding product
none_below a b = refl

none_of_none : (which : Bound) → bound_of_none which (product []) ≡ 0
unfolding product
none_of_none Meet = refl
none_of_none Join = refl

pub none_size : (product []).size ≡ 1
unfolding product
none_size = refl

module _ (tables : List AnyTable) (n : ℕ) (h : length tables ≤ n) where
  pub past_bound : (which : Bound) (a b : ℕ) → bound_of which (from tables n) a b ≡ 0
  past_bound which a b = ap (λ (o : Operations). bound_of which o a b) (past tables n h) ∙ none_bound which a b

  pub past_negation : (a : ℕ) → (from tables n).negation a ≡ 0
  past_negation a = ap (λ (o : Operations). o.negation a) (past tables n h) ∙ none_negation a

  pub past_below : (a b : ℕ) → (from tables n).below a b ≡ true
  past_below a b = ap (λ (o : Operations). o.below a b) (past tables n h) ∙ none_below a b

  pub past_of_none : (which : Bound) → bound_of_none which (from tables n) ≡ 0
  past_of_none which = ap (λ (o : Operations). bound_of_none which o) (past tables n h) ∙ none_of_none which

  pub past_size : (from tables n).size ≡ 1
  past_size = ap (λ (o : Operations). o.size) (past tables n h) ∙ none_size

pub positive : (tables : List AnyTable) (i : ℕ) → 0 < (from tables i).size
positive tables i = omega (arith, (lawful_product (drop i tables)).bottom_in_range)

-- a bound of codes is a code
pub bound_in_range : (which : Bound) (tables : List AnyTable) (a b : ℕ) → a < (product (lattices tables)).size → b < (product (lattices tables)).size → bound_of which (product (lattices tables)) a b < (product (lattices tables)).size
bound_in_range Meet tables a b = (lawful_product tables).meet_in_range a b
bound_in_range Join tables a b = (lawful_product tables).join_in_range a b

pub none_in_range : (which : Bound) (tables : List AnyTable) → bound_of_none which (product (lattices tables)) < (product (lattices tables)).size
none_in_range Meet tables = (lawful_product tables).top_in_range
none_in_range Join tables = (lawful_product tables).bottom_in_range

-- a bound in one part, and in a part and what follows it
bound_alone : (which : Bound) (l : LatticeData) (a b : ℕ) → bound_of which (product (l ∷ [])) a b ≡ bound_of which (single l) a b
bound_alone Meet l a b = product_meet l a b
bound_alone Join l a b = product_join l a b

none_alone : (which : Bound) (l : LatticeData) → bound_of_none which (product (l ∷ [])) ≡ bound_of_none which (single l)
none_alone Meet l = product_top l
none_alone Join l = product_bottom l

bound_in_pair : (which : Bound) (x y : Operations) (a b : ℕ) → bound_of which (pair x y) a b ≡ bound_of which x (a / y.size) (b / y.size) * y.size + bound_of which y (a % y.size) (b % y.size)
bound_in_pair Meet x y a b = refl
bound_in_pair Join x y a b = refl

none_in_pair : (which : Bound) (x y : Operations) → bound_of_none which (pair x y) ≡ bound_of_none which x * y.size + bound_of_none which y
none_in_pair Meet x y = refl
none_in_pair Join x y = refl

pub next : (tables : List AnyTable) (i : ℕ) (t : AnyTable) → i < length tables → t ≡ get_or tables i t → drop i tables ≡ t ∷ drop (i + 1) tables
next tables i t within is =
    drop-cons tables i t within ∙ (ap (λ (x : AnyTable). x ∷ drop (suc i) tables) (sym is) ∙ ap (λ (n : ℕ). t ∷ drop n tables) (sym (add-one i)))

-- the part at a place
pub item : (tables : List AnyTable) (i : ℕ) → i < length tables → (t : AnyTable) × (t ≡ get_or tables i t)
item [] i h = absurd (omega arith)
item (t ∷ tables) zero h = (t, refl)
item (t ∷ tables) (suc i) h = item tables i (omega arith)

module _ (tables : List AnyTable) (i : ℕ) (t : AnyTable) (within : i < length tables) (is : t ≡ get_or tables i t) where
  pub turn : from tables i ≡ pair (single (lattice_in_any t)) (from tables (i + 1))
  turn = ap (λ (ts : List AnyTable). product (lattices ts)) (next tables i t within is) ∙ product-cons (lattice_in_any t) (lattices (drop (i + 1) tables))

  pub size_turn : (from tables i).size ≡ (alone t).size * weight tables i
  size_turn = ap (λ (o : Operations). o.size) turn ∙ ap (λ (n : ℕ). n * weight tables i) (sym (product_size (lattice_in_any t)))

  pub digit_in : (code digit : ℕ) → code < (from tables i).size → digit ≡ code / weight tables i → digit < (alone t).size
  digit_in code digit h e =
      rw e (div_below code (weight tables i) (alone t).size (positive tables (i + 1)) (subst (λ (n : ℕ). code < n) size_turn h))

  pub rest_in : (code rest : ℕ) → rest ≡ code % weight tables i → rest < (from tables (i + 1)).size
  rest_in code rest e = rw e (mod_below code (weight tables i) (positive tables (i + 1)))

  -- of the parts from i on, by the digit of part i and the rest
  module _ (w : ℕ) (weighs : w ≡ weight tables i) where
    module _ (a da ra : ℕ) (ea : da ≡ a / weight tables i) (fa : ra ≡ a % weight tables i) where
      pub negation_turn : (r : ℕ) → r ≡ (alone t).negation da → r * w + (from tables (i + 1)).negation ra ≡ (from tables i).negation a
      negation_turn r er =
          rw (er, weighs, ea, fa, product_negation (lattice_in_any t) (a / weight tables i)) (sym (ap (λ (o : Operations). o.negation a) turn))

      module _ (b db rb : ℕ) (eb : db ≡ b / weight tables i) (fb : rb ≡ b % weight tables i) where
        pub bound_turn : (which : Bound) (r : ℕ) → r ≡ bound_of which (alone t) da db → r * w + bound_of which (from tables (i + 1)) ra rb ≡ bound_of which (from tables i) a b
        bound_turn which r er =
            rw (er, weighs, ea, fa, eb, fb, bound_alone which (lattice_in_any t) (a / weight tables i) (b / weight tables i))
            (sym (ap (λ (o : Operations). bound_of which o a b) turn ∙ bound_in_pair which (single (lattice_in_any t)) (from tables (i + 1)) a b))

        pub below_turn : (r : Bool) → r ≡ (alone t).below da db → (r && (from tables (i + 1)).below ra rb) ≡ (from tables i).below a b
        below_turn r er =
            rw (er, ea, fa, eb, fb, product_below (lattice_in_any t) (a / weight tables i) (b / weight tables i)) (sym (ap (λ (o : Operations). o.below a b) turn))

    pub turn_of_none : (which : Bound) (r : ℕ) → r ≡ bound_of_none which (alone t) → r * w + bound_of_none which (from tables (i + 1)) ≡ bound_of_none which (from tables i)
    turn_of_none which r er =
        rw (er, weighs, none_alone which (lattice_in_any t)) (sym (ap (λ (o : Operations). bound_of_none which o) turn ∙ none_in_pair which (single (lattice_in_any t)) (from tables (i + 1))))
