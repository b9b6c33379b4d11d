-- The merged machine is a frame.
use Rattle.std.proofs.Common.{◌≡◌, ℕ, ◌<◌, true, List, [], ◌∷◌, length, map, Option, Some, None, refl, sym, ◌∙◌, subst, arith}
use Rattle.std.proofs.lemmas.List.{length-map}
use Rattle.std.proofs.lemmas.List.FromFn.{length-map-range_with_len, get_or-map-range_with_len}
use Rattle.xc_theory.specs.Codes.{code_of}
use Rattle.xc_theory.specs.Lattices.{size}
use Rattle.xc_theory.proofs.Bounds.{join_of_lt}
use Rattle.xc_theory.proofs.Codes.{codes_are_in_range}
use Rattle.xc_alg.specs.Products.{product, sizes, AreLawful}
use Rattle.xc_base.specs.Names.{place_of}
use Rattle.xc_lattice.specs.Values.{value_of as lattice_of}
use Rattle.xc_lattice.specs.declared.lattice.Lattice.{Lattice}
use Rattle.xc_view.specs.Parts.{is_sound}
use Rattle.xc_view.specs.declared.view.View.{View}
use Rattle.xc_sigmap.specs.Maps.{value_of as map_of}
use Rattle.xc_sigmap_lines.specs.MapFiles.{MapValue}
use Rattle.xc_sigmap.specs.declared.sigmap.SigMap.{SigMap}
use Rattle.xc_sigmap_lines.specs.declared.parts.Tell.{Tell}
use Rattle.xc_sigmap_lines.specs.declared.parts.Told.{Told}
use Rattle.xc_sigmap_lines.specs.declared.parts.Told.TheVariants.{Named, Constant}
use Rattle.xc_ctl.specs.Frames.{IsFrame}
use Rattle.xc_merge.specs.Merges.{Merge, Viewpoint, viewpoint_at, for_each, parts_of}
use Rattle.xc_merge.specs.Merging.{viewpoint_of, merge_in}
use Rattle.xc_merge.specs.MergedFrames.{join_in, step_values, step_digit, digit_told, digit_by, prop_digit, line_of, merged_frame}
use Rattle.xc_merge.specs.Pieces.{constant_told, fixed_by, fixed}
use Rattle.xc_merged.specs.Tabled.{IsGood}
use Rattle.xc_merged.proofs.Giving.{digits_from, part_size}
use Rattle.xc_merged.proofs.Merging.{viewpoint_is, viewpoint_count}
use Rattle.xc_merged.proofs.Seeing.{item}

-- a lattice of the code is lawful, with names
lattice_good : (l : Lattice) → IsGood (lattice_of l)
lattice_good l = record { lawful = l.lawful; named = l.named; different = l.different; some = l.some; few = l.few }

pub lattices_good : (sigmap : SigMap) (views : List (View × Lattice)) (v : ℕ) → v < length (merge_in sigmap views).viewpoints → IsGood (viewpoint_at (merge_in sigmap views) v).lattice
lattices_good sigmap views v low =
    let here : v < length views = omega (arith, viewpoint_count sigmap views) in
    let pair = item views v here in
    subst (λ (p : Viewpoint). IsGood p.lattice) (sym (viewpoint_is sigmap views v pair.0 here pair.1)) (lattice_good pair.0.1)

pub views_sound : (sigmap : SigMap) (views : List (View × Lattice)) (v : ℕ) → v < length (merge_in sigmap views).viewpoints → is_sound (viewpoint_at (merge_in sigmap views) v).view ≡ true
views_sound sigmap views v low =
    let here : v < length views = omega (arith, viewpoint_count sigmap views) in
    let pair = item views v here in
    subst (λ (p : Viewpoint). is_sound p.view ≡ true) (sym (viewpoint_is sigmap views v pair.0 here pair.1)) pair.0.0.sound

lawful_views : (views : List (View × Lattice)) → AreLawful (map (λ (p : Viewpoint). p.lattice.algebra) (map viewpoint_of views))
lawful_views [] = tt
lawful_views (pair ∷ views) = (pair.1.lawful, pair.1.some, lawful_views views)

-- a value whose digits are elements
values_below : (m : Merge) (f : ℕ → Viewpoint → ℕ) → ((v : ℕ) → v < length m.viewpoints → f v (viewpoint_at m v) < size (viewpoint_at m v).lattice.algebra) → code_of (sizes (parts_of m)) (for_each m f) < (product (parts_of m)).size
unfolding product
values_below m f h =
    let parts : length (sizes (parts_of m)) ≡ length m.viewpoints = length-map (parts_of m) size ∙ length-map m.viewpoints (λ (p : Viewpoint). p.lattice.algebra) in
    codes_are_in_range (sizes (parts_of m)) (for_each m f)
    (digits_from (sizes (parts_of m)) (for_each m f) (length-map-range_with_len (λ v. f v (viewpoint_at m v)) 0 (length m.viewpoints) ∙ sym parts)
    (λ k low.
    let under : k < length m.viewpoints = omega arith in
    rw (get_or-map-range_with_len (λ v. f v (viewpoint_at m v)) 0 (length m.viewpoints) k k 0 under (omega arith), part_size m k under) (h k under)))

-- what a viewpoint gives is an element
join_below : (p : Viewpoint) (words : List (List ℕ)) → IsGood p.lattice → join_in p words < size p.lattice.algebra
join_below p words good = join_of_lt p.lattice.algebra.order (map (place_of p.lattice.names) words) (omega (arith, good.some))

told_below : (plan : MapValue) (s v : ℕ) (p : Viewpoint) (told : Told) → IsGood p.lattice → ((c : ℕ) → constant_told p told ≡ Some c → c < size p.lattice.algebra) → digit_told plan s v p told < size p.lattice.algebra
told_below plan s v p (Named name) good known = join_below p _ good
told_below plan s v p (Constant word) good known = known (place_of p.lattice.names word) refl

by_below : (plan : MapValue) (s v : ℕ) (p : Viewpoint) (o : Option Tell) → IsGood p.lattice → ((c : ℕ) → fixed_by p o ≡ Some c → c < size p.lattice.algebra) → digit_by plan s v p o < size p.lattice.algebra
by_below plan s v p None good known = omega (arith, good.some)
by_below plan s v p (Some line) good known = told_below plan s v p line.told good known

-- the frame
pub framed : (sigmap : SigMap) (views : List (View × Lattice))
    → ((v c k : ℕ) → v < length (merge_in sigmap views).viewpoints → fixed (map_of sigmap) v (viewpoint_at (merge_in sigmap views) v) k ≡ Some c → c < size (viewpoint_at (merge_in sigmap views) v).lattice.algebra)
    → IsFrame (merged_frame (merge_in sigmap views))
unfolding merged_frame
framed sigmap views known =
    let m = merge_in sigmap views in
    record {
      lawful = lawful_views views;
      steps = λ s t low there. values_below m (step_digit (map_of sigmap) s t) (λ v under. join_below (viewpoint_at m v) (step_values (map_of sigmap) v (viewpoint_at m v) s t) (lattices_good sigmap views v under));
      values = λ k s low there.
          values_below m (prop_digit (map_of sigmap) k s)
          (λ v under. by_below (map_of sigmap) s v (viewpoint_at m v) (line_of (map_of sigmap) v k) (lattices_good sigmap views v under) (λ c e. known v c k under e));
    }
