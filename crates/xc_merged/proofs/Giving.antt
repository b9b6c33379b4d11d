-- The digits of values.
use Rattle.std.proofs.Common.{◌≡◌, ℕ, suc, ◌+◌, ◌<◌, ◌≤◌, List, [], ◌∷◌, length, map, get_or, take, sym, ◌∙◌, ap, subst, inl, inr, arith}
use Rattle.std.proofs.Math.ListN.{set}
use Rattle.std.specs.List.{range_with_len}
use Rattle.std.proofs.lemmas.Bool.{cases_eq}
use Rattle.std.proofs.lemmas.List.{length-take-le, get_or-take, get_or-set_same, get_or-set_other, length-map, get_or-map}
use Rattle.std.proofs.lemmas.List.FromFn.{fill_by_all}
use Rattle.xc_theory.specs.Codes.{AreDigits}
use Rattle.xc_theory.specs.Lattices.{size}
use Rattle.xc_alg.specs.Products.{sizes}
use Rattle.xc_merge.specs.Merges.{Merge, Viewpoint, nobody, viewpoint_at, for_each, parts_of}
use Rattle.xc_merged.specs.Digits.{IsDigit, AreGiven}

-- one more digit
pub given_more : (m : Merge) (f : ℕ → Viewpoint → ℕ) (v digit : ℕ) (row : List ℕ) → v < length row → AreGiven m f v row → IsDigit m f v digit → AreGiven m f (v + 1) (set row v digit)
given_more m f v digit row low are one =
    record {
      given = λ w under.
          elim (cases_eq w v) [
            | inl same ↦ subst (λ (n : ℕ). IsDigit m f n (get_or (set row v digit) n 0)) (sym same) (subst (IsDigit m f v) (sym (get_or-set_same row v digit 0 low)) one)
            | inr apart ↦ subst (IsDigit m f w) (sym (get_or-set_other row v w digit 0 apart)) (are.given w (omega arith))
          ];
    }

pub none_given : (m : Merge) (f : ℕ → Viewpoint → ℕ) (row : List ℕ) → AreGiven m f 0 row
none_given m f row = record { given = λ v under. absurd (omega arith) }

-- digits by their sizes
pub digits_from : (sizes row : List ℕ) → length row ≡ length sizes → ((k : ℕ) → k < length sizes → get_or row k 0 < get_or sizes k 0) → AreDigits sizes row
digits_from [] [] e h = tt
digits_from [] (d ∷ row) e h = absurd (omega arith)
digits_from (s ∷ sizes) [] e h = absurd (omega arith)
digits_from (s ∷ sizes) (d ∷ row) e h = (h 0 (omega arith), digits_from sizes row (omega arith) (λ k low. h (suc k) (omega arith)))

pub part_size : (m : Merge) (k : ℕ) → k < length m.viewpoints → get_or (sizes (parts_of m)) k 0 ≡ size (viewpoint_at m k).lattice.algebra
part_size m k low =
    get_or-map size (parts_of m) k nobody.lattice.algebra 0 (omega (arith, length-map m.viewpoints (λ (p : Viewpoint). p.lattice.algebra)))
    ∙ ap size (get_or-map (λ (p : Viewpoint). p.lattice.algebra) m.viewpoints k nobody nobody.lattice.algebra low)

-- the digits of all viewpoints
module _ (m : Merge) (f : ℕ → Viewpoint → ℕ) (row : List ℕ) (count v : ℕ) (count_is : count ≡ length m.viewpoints) (all : count ≤ v) (room : count ≤ length row) (are : AreGiven m f v row) where
  pub given_values : take count row ≡ for_each m f
  given_values =
      fill_by_all (λ w. f w (viewpoint_at m w)) (take count row) count 0 (length-take-le count row room)
      (λ k low. get_or-take count row k 0 low ∙ (are.given k (omega arith)).value)
      ∙ ap (λ (n : ℕ). map (λ w. f w (viewpoint_at m w)) (range_with_len 0 n)) count_is

  pub given_digits : AreDigits (sizes (parts_of m)) (take count row)
  given_digits =
      let parts : length (sizes (parts_of m)) ≡ count = length-map (parts_of m) size ∙ length-map m.viewpoints (λ (p : Viewpoint). p.lattice.algebra) ∙ sym count_is in
      digits_from (sizes (parts_of m)) (take count row) (length-take-le count row room ∙ sym parts)
      (λ k low.
      let under : k < count = omega arith in
      rw (get_or-take count row k 0 under, part_size m k (omega arith)) (are.given k (omega arith)).below)
