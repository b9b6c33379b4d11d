-- Which fault the merged machine has by how many of its states are initial.
use Rattle.std.proofs.Common.{◌≡◌, ℕ, ◌+◌, ◌<◌, ◌≤◌, false, eqb, List, [], ◌∷◌, ◌++◌, length, map, get_or, take, Some, None, refl, sym, ◌∙◌, ap, subst, inl, inr, arith}
use Rattle.std.proofs.lemmas.Bool.{cases_eq, lt-ltb, le-ltb, ne_eqb}
use Rattle.std.proofs.lemmas.List.{length_push, get_or_append_left, get_or_push, get_or_read, length-map, get_or-map, same_lists}
use Rattle.xc_theory.specs.Codes.{total, digits, AreDigits}
use Rattle.xc_theory.specs.Lattices.{LatticeData, size}
use Rattle.xc_theory.proofs.Codes.{digits_are_in_range}
use Rattle.xc_alg.specs.AnyTables.{lattice_in_any}
use Rattle.xc_alg.specs.Products.{product, sizes}
use Rattle.xc_alg.proofs.Tables.{product_size}
use Rattle.xc_forms.specs.Variables.{sizes_of}
use Rattle.xc_lattice.specs.Values.{value_of as lattice_of}
use Rattle.xc_lattice.specs.declared.lattice.Lattice.{Lattice}
use Rattle.xc_view.specs.declared.view.View.{View}
use Rattle.xc_sigmap.specs.Maps.{value_of as map_of}
use Rattle.xc_sigmap_lines.specs.MapFiles.{MapValue}
use Rattle.xc_sigmap.specs.declared.sigmap.SigMap.{SigMap}
use Rattle.xc_merge.specs.Merges.{Merge, Viewpoint, nobody, viewpoint_at, parts_of, names_of_parts}
use Rattle.xc_merge.specs.Merging.{viewpoint_of, merge_in}
use Rattle.xc_merge.specs.Projections.{states_of, row_of, row_seen, place_seen, projection}
use Rattle.xc_merge.specs.MergedFrames.{is_initial_for, initials_of}
use Rattle.xc_merge.specs.Faults.{all_faults, merge_fault}
use Rattle.xc_merge.specs.declared.fault.MergeFault.TheVariants.{Elements, NoInitial, Initial}
use Rattle.xc_expr.specs.Tests.{holds_at}
use Rattle.xc_view.specs.Views.{value_of as view_of}
use Rattle.xc_forms.specs.declared.domain.Domain.{Domain}
use Rattle.xc_merged.specs.Tabled.{AreTables, AreWeights}
use Rattle.xc_merged.specs.Gathering.{AreTabled, operations, names_in}
use Rattle.xc_merged.specs.declared.tables.Tables.{Tables}
use Rattle.xc_machine.specs.Descent.{IsFound}
use Rattle.xc_machine.specs.declared.initials.Found.{Found}
use Rattle.xc_machine.proofs.Descending.{found_count}
use Rattle.xc_merged.proofs.Seeing.{item}
use Rattle.xc_merged.proofs.Stepping.{map_map, row_back}

-- none initial, or too many
pub no_initial : (m : Merge) (count : ℕ) → all_faults m ≡ [] → total (sizes (parts_of m)) ≤ 4096 → count ≡ length (initials_of m) → count ≡ 0 → merge_fault m ≡ Some NoInitial
no_initial m count none low e zero_is = rw (none, le-ltb 4096 (total (sizes (parts_of m))) low, sym e, zero_is) refl

pub many_initial : (m : Merge) (count : ℕ) → all_faults m ≡ [] → total (sizes (parts_of m)) ≤ 4096 → count ≡ length (initials_of m) → 4096 < count → merge_fault m ≡ Some (Initial count)
many_initial m count none low e high =
    let apart : eqb count 0 ≡ false = ne_eqb count 0 (λ same. omega arith) in
    rw (none, le-ltb 4096 (total (sizes (parts_of m))) low, sym e, apart, lt-ltb 4096 count high) refl

pub no_fault : (m : Merge) (found : Found) → all_faults m ≡ [] → total (sizes (parts_of m)) ≤ 4096 → IsFound m (states_of m.plan) found → (found.count ≡ 0 → ⊥) → found.count ≤ 4096 → merge_fault m ≡ None
no_fault m found none low h some few =
    let e : found.count ≡ length (initials_of m) = found_count m found h in
    let apart : eqb found.count 0 ≡ false = ne_eqb found.count 0 some in
    rw (none, le-ltb 4096 (total (sizes (parts_of m))) low, sym e, apart, le-ltb 4096 found.count few) refl
