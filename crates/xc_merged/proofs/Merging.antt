-- Viewpoints and their tables.
use Rattle.std.proofs.Common.{◌≡◌, ℕ, ◌+◌, ◌<◌, List, [], ◌∷◌, ◌++◌, length, map, get_or, take, Some, refl, sym, ◌∙◌, ap, subst, inl, inr, arith}
use Rattle.std.proofs.lemmas.Bool.{cases_eq, lt-ltb}
use Rattle.std.proofs.lemmas.List.{length_push, get_or_append_left, get_or_push, get_or_read, length-map, get_or-map, same_lists}
use Rattle.xc_theory.specs.Codes.{total, digits, AreDigits}
use Rattle.xc_theory.specs.Lattices.{LatticeData, size}
use Rattle.xc_theory.proofs.Codes.{digits_are_in_range}
use Rattle.xc_alg.specs.AnyTables.{lattice_in_any}
use Rattle.xc_alg.specs.Products.{product, sizes}
use Rattle.xc_alg.proofs.Tables.{product_size}
use Rattle.xc_forms.specs.Variables.{sizes_of}
use Rattle.xc_lattice.specs.Values.{value_of as lattice_of}
use Rattle.xc_lattice.specs.declared.lattice.Lattice.{Lattice}
use Rattle.xc_view.specs.declared.view.View.{View}
use Rattle.xc_sigmap.specs.Maps.{value_of as map_of}
use Rattle.xc_sigmap_lines.specs.MapFiles.{MapValue}
use Rattle.xc_sigmap.specs.declared.sigmap.SigMap.{SigMap}
use Rattle.xc_merge.specs.Merges.{Merge, Viewpoint, nobody, viewpoint_at, parts_of, names_of_parts}
use Rattle.xc_merge.specs.Merging.{viewpoint_of, merge_in}
use Rattle.xc_merge.specs.Projections.{states_of, row_of, row_seen, place_seen, projection}
use Rattle.xc_merge.specs.MergedFrames.{is_initial_for}
use Rattle.xc_merge.specs.Faults.{all_faults, merge_fault}
use Rattle.xc_merge.specs.declared.fault.MergeFault.TheVariants.{Elements}
use Rattle.xc_expr.specs.Tests.{holds_at}
use Rattle.xc_view.specs.Views.{value_of as view_of}
use Rattle.xc_forms.specs.declared.domain.Domain.{Domain}
use Rattle.xc_merged.specs.Tabled.{AreTables, AreWeights}
use Rattle.xc_merged.specs.Gathering.{AreTabled, operations, names_in}
use Rattle.xc_merged.specs.declared.tables.Tables.{Tables}
use Rattle.xc_merged.proofs.Seeing.{item}
use Rattle.xc_merged.proofs.Stepping.{map_map, row_back}

-- a viewpoint by its place
pub viewpoint_is : (sigmap : SigMap) (views : List (View × Lattice)) (v : ℕ) (pair : View × Lattice) → v < length views → pair ≡ get_or views v pair → viewpoint_at (merge_in sigmap views) v ≡ viewpoint_of pair
viewpoint_is sigmap views v pair low is = get_or-map viewpoint_of views v pair nobody low ∙ ap viewpoint_of (sym is)

-- how many there are
pub viewpoint_count : (sigmap : SigMap) (views : List (View × Lattice)) → length views ≡ length (merge_in sigmap views).viewpoints
viewpoint_count sigmap views = sym (length-map views viewpoint_of)

-- the tables of one more
pub tabled_more : (sigmap : SigMap) (views : List (View × Lattice)) (v : ℕ) (tables : List Tables) (pair : View × Lattice) (t : Tables) → v < length views → pair ≡ get_or views v pair → AreTabled sigmap views v tables → AreTables (map_of sigmap) v (viewpoint_of pair) t → AreTabled sigmap views (v + 1) (tables ++ t ∷ [])
tabled_more sigmap views v tables pair t low is are one =
    record {
      count = length_push tables t ∙ ap (λ (n : ℕ). n + 1) are.count;
      tabled = λ w other u under at there.
          elim (cases_eq w v) [
            | inl same ↦
                let u_same : t ≡ u = sym (get_or_push tables t u v are.count) ∙ ap (λ (n : ℕ). get_or (tables ++ t ∷ []) n u) (sym same) ∙ sym there in
                let other_at : other ≡ get_or views v other = at ∙ ap (λ (n : ℕ). get_or views n other) same in
                let pair_same : pair ≡ other = get_or_read views v pair low is other ∙ sym other_at in
                subst (λ (n : ℕ). AreTables (map_of sigmap) n (viewpoint_of other) u) (sym same)
                (subst (λ (q : View × Lattice). AreTables (map_of sigmap) v (viewpoint_of q) u) pair_same (subst (λ (s : Tables). AreTables (map_of sigmap) v (viewpoint_of pair) s) u_same one))
            | inr apart ↦ are.tabled w other u (omega arith) at (there ∙ get_or_append_left tables (t ∷ []) u w (omega (arith, are.count)))
          ];
    }

pub none_tabled : (sigmap : SigMap) (views : List (View × Lattice)) → AreTabled sigmap views 0 []
none_tabled sigmap views = record { count = refl; tabled = λ v pair t under. absurd (omega arith) }

-- the operations are those of the parts
operation_at : (sigmap : SigMap) (views : List (View × Lattice)) (tables : List Tables) → AreTabled sigmap views (length views) tables → (k : ℕ) (d : LatticeData) → k < length (map operations tables) → get_or (map operations tables) k d ≡ get_or (parts_of (merge_in sigmap views)) k d
operation_at sigmap views tables are k d low =
    let under : k < length tables = omega (arith, length-map tables operations) in
    let here : k < length views = omega (arith, are.count) in
    let there : k < length (map viewpoint_of views) = omega (arith, length-map views viewpoint_of) in
    let t = item tables k under in
    let pair = item views k here in
    get_or-map operations tables k t.0 d under
    ∙ ap operations (sym t.1)
    ∙ (are.tabled k pair.0 t.0 here pair.1 t.1).operations
    ∙ ap (λ (q : View × Lattice). (lattice_of q.1).algebra) pair.1
    ∙ ap (λ (p : Viewpoint). p.lattice.algebra) (sym (get_or-map viewpoint_of views k pair.0 (viewpoint_of pair.0) here))
    ∙ sym (get_or-map (λ (p : Viewpoint). p.lattice.algebra) (map viewpoint_of views) k (viewpoint_of pair.0) d there)

pub operations_are : (sigmap : SigMap) (views : List (View × Lattice)) (tables : List Tables) → AreTabled sigmap views (length views) tables → map operations tables ≡ parts_of (merge_in sigmap views)
operations_are sigmap views tables are =
    same_lists (map operations tables) (parts_of (merge_in sigmap views))
    (length-map tables operations ∙ are.count ∙ sym (length-map views viewpoint_of) ∙ sym (length-map (map viewpoint_of views) (λ (p : Viewpoint). p.lattice.algebra)))
    (operation_at sigmap views tables are)

pub names_are : (sigmap : SigMap) (views : List (View × Lattice)) → map names_in views ≡ names_of_parts (merge_in sigmap views)
names_are sigmap views = sym (map_map (λ (p : Viewpoint). p.lattice.names) viewpoint_of views)

-- the places of the map's variables at a state
pub state_digits : (plan : MapValue) (s : ℕ) (row : List ℕ) → s < states_of plan → row ≡ row_of plan s → AreDigits (sizes_of plan.vars) row
state_digits plan s row low e = rw e (digits_are_in_range (sizes_of plan.vars) s low)

-- the size of a viewpoint's operations
pub operations_size : (plan : MapValue) (v : ℕ) (p : Viewpoint) (t : Tables) → AreTables plan v p t → (product (lattice_in_any t.operations ∷ [])).size ≡ size p.lattice.algebra
operations_size plan v p t are = ap (λ (l : LatticeData). (product (l ∷ [])).size) are.operations ∙ product_size p.lattice.algebra

pub weights_sized : (plan : MapValue) (v : ℕ) (p : Viewpoint) (t : Tables) (weights : List ℕ) → AreTables plan v p t → AreWeights (size p.lattice.algebra) weights → AreWeights (product (lattice_in_any t.operations ∷ [])).size weights
weights_sized plan v p t weights are h = rw (operations_size plan v p t are) h

-- what is seen of places, as the code has it
module _ (sigmap : SigMap) (views : List (View × Lattice)) (v : ℕ) (pair : View × Lattice) (row places : List ℕ) (vars : List Domain) (count : ℕ)
    (low : v < length views) (is : pair ≡ get_or views v pair) (known : take (length (viewpoint_at (merge_in sigmap views) v).view.vars) places ≡ row_seen (map_of sigmap) v (viewpoint_at (merge_in sigmap views) v) row)
    (vars_is : vars ≡ (view_of pair.0).vars) (count_is : count ≡ length vars) where
  pub seen_row : take count places ≡ row_seen (map_of sigmap) v (viewpoint_of pair) row
  seen_row =
      ap (λ (n : ℕ). take n places) (count_is ∙ ap length vars_is)
      ∙ subst (λ (p : Viewpoint). take (length p.view.vars) places ≡ row_seen (map_of sigmap) v p row) (viewpoint_is sigmap views v pair low is) known

  pub seen_length : length (take count places) ≡ length vars
  seen_length = ap length seen_row ∙ length-map (view_of pair.0).vars (place_seen (map_of sigmap) v row) ∙ sym (ap length vars_is)

  pub seen_count : count ≡ length (take count places)
  seen_count = count_is ∙ sym seen_length

  pub seen_places : AreDigits (sizes_of (view_of pair.0).vars) (row_seen (map_of sigmap) v (viewpoint_of pair) row) → AreDigits (sizes_of vars) (take count places)
  seen_places h = rw (seen_row, vars_is) h

pub digits_pair : (sigmap : SigMap) (views : List (View × Lattice)) (v : ℕ) (pair : View × Lattice) (row : List ℕ) → v < length views → pair ≡ get_or views v pair
    → AreDigits (sizes_of (viewpoint_at (merge_in sigmap views) v).view.vars) (row_seen (map_of sigmap) v (viewpoint_at (merge_in sigmap views) v) row) → AreDigits (sizes_of (view_of pair.0).vars) (row_seen (map_of sigmap) v (viewpoint_of pair) row)
digits_pair sigmap views v pair row low is h = subst (λ (p : Viewpoint). AreDigits (sizes_of p.view.vars) (row_seen (map_of sigmap) v p row)) (viewpoint_is sigmap views v pair low is) h

-- whether a state is initial for a viewpoint, by what is seen of it
pub initial_for_is : (plan : MapValue) (v s : ℕ) (p : Viewpoint) (row : List ℕ) → row ≡ row_of plan s → AreDigits (sizes_of p.view.vars) (row_seen plan v p row) → holds_at p.view.init (row_seen plan v p row) ≡ is_initial_for plan s v p
initial_for_is plan v s p row e h =
    let same : row_seen plan v p (row_of plan s) ≡ row_seen plan v p row = ap (row_seen plan v p) (sym e) in
    let digits_ : AreDigits (sizes_of p.view.vars) (row_seen plan v p (row_of plan s)) = rw same h in
    ap (holds_at p.view.init) (sym same ∙ sym (row_back p.view (row_seen plan v p (row_of plan s)) (projection plan v p s) digits_ refl))

-- the places that are read at a state
pub row_read : (plan : MapValue) (vars : List Domain) (places : List ℕ) (count s : ℕ) → vars ≡ plan.vars → count ≡ length vars → take (length vars) places ≡ digits (sizes_of vars) s → take count places ≡ row_of plan s
row_read plan vars places count s e f known = ap (λ (n : ℕ). take n places) f ∙ known ∙ ap (λ (some : List Domain). digits (sizes_of some) s) e

-- too many elements
pub too_large : (m : Merge) (size : ℕ) → all_faults m ≡ [] → size ≡ total (sizes (parts_of m)) → 4096 < size → merge_fault m ≡ Some (Elements size)
too_large m size none e high = rw (none, sym e, lt-ltb 4096 size high) refl
