-- What is merged without a fault is a frame, and formulas over it can be read.
use Rattle.std.proofs.Common.{◌≡◌, ℕ, suc, ◌+◌, ◌*◌, ◌<◌, ◌≤◌, Bool, true, false, not, ◌==◌, nat_lt, cond, List, [], ◌∷◌, ◌++◌, length, map, Option, Some, None, refl, sym, ap, subst, append-nil, append_assoc, arith}
use Rattle.std.specs.List.{list_all, range_with_len, slice_index_or}
use Rattle.std.proofs.lemmas.List.{length-map}
use Rattle.std.proofs.lemmas.Nat.{mul-le}
use Rattle.std.proofs.lemmas.Bool.{and_from, and_parts, le-leb, leb-true, lt-ltb, ltb-false, ne_eqb}
use Rattle.xc_theory.specs.Lattices.{LatticeData, size}
use Rattle.xc_theory.specs.Codes.{total, code_of, AreDigits}
use Rattle.xc_theory.proofs.Codes.{codes_are_in_range}
use Rattle.xc_theory.proofs.Bounds.{join_of_lt}
use Rattle.xc_alg.specs.Operations.{Operations, IsAlgebra}
use Rattle.xc_alg.specs.Products.{product, sizes, AreLawful}
use Rattle.xc_alg.proofs.Products.{product_laws}
use Rattle.xc_base.specs.Formats.{Row, IsAccepted, AreStatements}
use Rattle.xc_base.specs.Formats.AreStatements.{none, next}
use Rattle.xc_base.specs.Names.{has_twice, place_of}
use Rattle.xc_sigmap_lines.specs.MapFiles.{MapValue, map_format}
use Rattle.xc_sigmap.specs.Sound.{is_sound, are_declared, are_told}
use Rattle.xc_sigmap_lines.specs.declared.statement.Statement.{Statement}
use Rattle.xc_sigmap_lines.specs.declared.parts.Tell.{Tell}
use Rattle.xc_sigmap_lines.specs.declared.parts.Told.{Told}
use Rattle.xc_sigmap_lines.specs.declared.parts.Told.TheVariants.{Named, Constant}
use Rattle.xc_sigmap.specs.Drafts.{IsFair}
use Rattle.xc_sigmap.proofs.Fair.{none_is_fair, next_is_fair}
use Rattle.xc_sigmap.proofs.Sound.{map_is_sound}
use Rattle.xc_forms.specs.Variables.{are_fit}
use Rattle.xc_merge.specs.Merges.{Merge, Viewpoint, nobody, viewpoint_at, for_each, parts_of, names_of_parts}
use Rattle.xc_merge.specs.MergedFrames.{merged_frame, initials_of, step_digit, prop_digit, digit_by, digit_told, line_of}
use Rattle.xc_merge.specs.Pieces.{fixed_by, constant_told}
use Rattle.xc_merge.specs.Faults.{merge_fault, first_of, all_faults, limit_fault, initial_fault}
use Rattle.xc_merge.specs.declared.fault.MergeFault.{MergeFault}
use Rattle.xc_merge.specs.declared.fault.MergeFault.TheVariants.{Elements}
use Rattle.xc_merged.proofs.Faultless.{faultless, none_of_one, fixed_within}
use Rattle.xc_ctl.specs.Frames.{IsFrame}
use Rattle.xc_ctl.specs.Trees.{is_fit, is_part, sizes_of}
use Rattle.xc_report.specs.Reports.{signature_of}
use Rattle.xc_report.proofs.Lattices.{IsNamed, AreNamed, named_at, parts_are_lawful, names_as_many}

-- a map that a file says, and a viewpoint with a lattice for each of its own, without a fault
pub record IsGood (m : Merge) : Type 0 where
  pub sound : is_sound m.plan ≡ true
  pub count : length m.viewpoints ≡ length m.plan.uses
  pub are_named : AreNamed m.viewpoints
  pub faultless : merge_fault m ≡ None

-- statements of a file are fair behind those before
all_fair : {before : List Statement} {rows : List Row} {ss : List Statement} → AreStatements map_format before rows ss → IsFair before → IsFair (before ++ ss)
all_fair (none before) fair = subst IsFair (sym (append-nil before)) fair
all_fair (next before row rows s more first rest) fair = subst IsFair (append_assoc before (s ∷ []) more) (all_fair rest (next_is_fair before row.tokens s fair first))

-- so a map that is accepted is sound
pub accepted_is_sound : (rows : List Row) (plan : MapValue) → IsAccepted map_format rows plan → is_sound plan ≡ true
accepted_is_sound rows plan is = subst (λ (v : MapValue). is_sound v ≡ true) (sym is.says) (map_is_sound is.statements (all_fair is.read none_is_fair) is.whole)

-- what is declared in a sound map
pub record Declared (plan : MapValue) : Type 0 where
  pub some_uses : 1 ≤ length plan.uses
  pub few_uses : length plan.uses ≤ 8
  pub fit : are_fit plan.vars ≡ true
  pub few_props : length plan.props ≤ 256
  pub different_props : not (has_twice plan.props) ≡ true

pub declared_parts : (plan : MapValue) → is_sound plan ≡ true → Declared plan
declared_parts plan h =
    let declared = (and_parts (are_declared plan) (are_told plan) h).0 in
    let props = (and_parts _ _ declared).0 in
    let few = (and_parts _ _ props).0 in
    let vars = (and_parts _ _ (and_parts _ _ few).0).0 in
    let uses = (and_parts _ _ (and_parts _ _ (and_parts _ _ vars).0).0).0 in
    record {
      some_uses = leb-true 1 (length plan.uses) (and_parts _ _ (and_parts _ _ uses).0).1;
      few_uses = leb-true (length plan.uses) 8 (and_parts _ _ uses).1;
      fit = (and_parts _ _ vars).1;
      few_props = leb-true (length plan.props) 256 (and_parts _ _ few).1;
      different_props = (and_parts _ _ props).1;
    }

-- no first fault is none at all
none_first : (faults : List MergeFault) (later : Option MergeFault) → first_of faults later ≡ None → (faults ≡ []) × (later ≡ None)
none_first [] later h = (refl, h)
none_first (fault ∷ faults) later h = cc

no_limit : (big : Bool) (fault : MergeFault) (later : Option MergeFault) → cond big (Some fault) later ≡ None → big ≡ false
no_limit true fault later h = cc
no_limit false fault later h = refl

few_elements : (m : Merge) → merge_fault m ≡ None → total (sizes (parts_of m)) ≤ 4096
few_elements m free = ltb-false 4096 (total (sizes (parts_of m))) (no_limit (nat_lt 4096 (total (sizes (parts_of m)))) (Elements (total (sizes (parts_of m)))) (initial_fault (length (initials_of m))) (none_first (all_faults m) (limit_fault m) free).1)

-- digits of all viewpoints
each_digit : (g : ℕ → ℕ) (found : List Viewpoint) (k : ℕ) → ((i : ℕ) → i < length found → g (k + i) < size (slice_index_or found i nobody).lattice.algebra) → AreDigits (sizes (map (λ (p : Viewpoint). p.lattice.algebra) found)) (map g (range_with_len k (length found)))
each_digit g [] k h = tt
each_digit g (p ∷ found) k h =
    let here : k + 0 ≡ k = omega arith in (
      subst (λ (j : ℕ). g j < size p.lattice.algebra) here (h 0 (omega arith)),
      each_digit g found (k + 1) (λ i low. let e : k + suc i ≡ k + 1 + i = omega arith in subst (λ (j : ℕ). g j < size (slice_index_or found i nobody).lattice.algebra) e (h (suc i) (omega arith))),
    )

digits_in_range : (m : Merge) (f : ℕ → Viewpoint → ℕ) → ((v : ℕ) → v < length m.viewpoints → f v (viewpoint_at m v) < size (viewpoint_at m v).lattice.algebra) → code_of (sizes (parts_of m)) (for_each m f) < (product (parts_of m)).size
unfolding product
digits_in_range m f h = codes_are_in_range (sizes (parts_of m)) (for_each m f) (each_digit (λ v. f v (viewpoint_at m v)) m.viewpoints 0 (λ i low. let e : i ≡ 0 + i = omega arith in subst (λ (v : ℕ). f v (viewpoint_at m v) < size (slice_index_or m.viewpoints i nobody).lattice.algebra) e (h i low)))

-- what a viewpoint tells is an element
word_in_range : (plan : MapValue) (s v : ℕ) (p : Viewpoint) (told : Told) → IsNamed p.lattice → ((c : ℕ) → constant_told p told ≡ Some c → c < length p.lattice.names) → digit_told plan s v p told < size p.lattice.algebra
word_in_range plan s v p (Named name) is known = join_of_lt _ _ (omega (arith, is.some))
word_in_range plan s v p (Constant word) is known = omega (arith, is.named, known (place_of p.lattice.names word) refl)

told_in_range : (plan : MapValue) (s v : ℕ) (p : Viewpoint) (o : Option Tell) → IsNamed p.lattice → ((c : ℕ) → fixed_by p o ≡ Some c → c < length p.lattice.names) → digit_by plan s v p o < size p.lattice.algebra
told_in_range plan s v p None is known = omega (arith, is.some)
told_in_range plan s v p (Some line) is known = word_in_range plan s v p line.told is known

pub merge_is_framed : (m : Merge) → IsGood m → IsFrame (merged_frame m)
unfolding merged_frame
merge_is_framed m good =
    let faults = none_first (all_faults m) (limit_fault m) good.faultless in record {
      lawful = parts_are_lawful m good.are_named;
      steps = λ s t low high. digits_in_range m (step_digit m.plan s t) (λ v here. join_of_lt _ _ (omega (arith, (named_at m.viewpoints v good.are_named here).some)));
      values = λ k s low high. digits_in_range m (prop_digit m.plan k s)
          (λ v here. told_in_range m.plan s v (viewpoint_at m v) (line_of m.plan v k) (named_at m.viewpoints v good.are_named here)
          (λ c e. fixed_within m.plan v k (viewpoint_at m v) c (faultless m.plan v (viewpoint_at m v) (none_of_one m v faults.0 here)) e));
    }

-- an element that is both the bottom and the top is each element
only_one : (o : Operations) → IsAlgebra o → o.bottom ≡ o.top → (a : ℕ) → a < o.size → a ≡ o.bottom
only_one o laws e a low = laws.antisymmetric a o.bottom low laws.bottom_in_range (subst (λ (x : ℕ). o.below a x ≡ true) (sym e) (laws.top_above a low)) (laws.bottom_below a low)

ends_differ : (o : Operations) → IsAlgebra o → 2 ≤ o.size → o.bottom ≡ o.top → ⊥
ends_differ o laws several e =
    let zero_is : 0 ≡ o.bottom = only_one o laws e 0 (omega arith) in
    let one_is : 1 ≡ o.bottom = only_one o laws e 1 (omega arith) in
    omega arith

-- the names of each part are fit
all_parts : (found : List Viewpoint) → AreNamed found → list_all is_part (map (λ (p : Viewpoint). p.lattice.names) found) ≡ true
all_parts [] are = refl
all_parts (p ∷ found) are =
    and_from _ _ (and_from _ _ (and_from _ _ (le-leb 2 (length p.lattice.names) (omega (arith, are.0.named, are.0.some))) (le-leb (length p.lattice.names) 64 (omega (arith, are.0.named, are.0.few)))) (ap not are.0.different))
    (all_parts found are.1)

-- more than one element
one_at_least : (parts : List LatticeData) → AreLawful parts → 1 ≤ total (sizes parts)
one_at_least [] lawful = omega arith
one_at_least (l ∷ parts) lawful =
    let more : 1 ≤ total (sizes parts) = one_at_least parts lawful.2 in
    let product : 1 * 1 ≤ size l * total (sizes parts) = mul-le 1 1 (size l) (total (sizes parts)) (omega (arith, lawful.1)) more in omega arith

product_several : (parts : List LatticeData) → AreLawful parts → 1 ≤ length parts → 2 ≤ total (sizes parts)
product_several [] lawful some = absurd (omega arith)
product_several (l ∷ parts) lawful some =
    let product : 2 * 1 ≤ size l * total (sizes parts) = mul-le 2 1 (size l) (total (sizes parts)) lawful.1 (one_at_least parts lawful.2) in omega arith

-- what formulas over a machine are about is fit to be read
pub signature_is_fit : (m : Merge) → is_sound m.plan ≡ true → 1 ≤ length m.viewpoints → length m.viewpoints ≤ 8 → AreNamed m.viewpoints → total (sizes (parts_of m)) ≤ 4096 → is_fit (signature_of m) ≡ true
unfolding product
signature_is_fit m sound one eight are few =
    let parts : List LatticeData = parts_of m in
    let lawful : AreLawful parts = parts_are_lawful m are in
    let laws : IsAlgebra (product parts) = product_laws parts lawful in
    let declared : Declared m.plan = declared_parts m.plan sound in
    let many : length parts ≡ length m.viewpoints = length-map m.viewpoints (λ (p : Viewpoint). p.lattice.algebra) in
    let rows : length (names_of_parts m) ≡ length m.viewpoints = length-map m.viewpoints (λ (p : Viewpoint). p.lattice.names) in
    let same : total (sizes_of (names_of_parts m)) ≡ total (sizes parts) = names_as_many m are in
    let several : 2 ≤ total (sizes parts) = product_several parts lawful (omega arith) in
    let bottom_in : nat_lt (product parts).bottom (total (sizes_of (names_of_parts m))) ≡ true = lt-ltb _ _ (rw same laws.bottom_in_range) in
    let top_in : nat_lt (product parts).top (total (sizes_of (names_of_parts m))) ≡ true = lt-ltb _ _ (rw same laws.top_in_range) in
    let apart : not ((product parts).bottom == (product parts).top) ≡ true = ap not (ne_eqb _ _ (ends_differ (product parts) laws several)) in
    and_from _ _ (and_from _ _ (and_from _ _ (and_from _ _ (and_from _ _ (and_from _ _ (and_from _ _ (and_from _ _ (le-leb (length m.plan.props) 256 declared.few_props) declared.different_props)
    (le-leb 1 (length (names_of_parts m)) (omega arith))) (le-leb (length (names_of_parts m)) 8 (omega arith))) (all_parts m.viewpoints are))
    (le-leb (total (sizes_of (names_of_parts m))) 4096 (omega arith))) bottom_in) top_in) apart

pub merge_is_fit : (m : Merge) → IsGood m → is_fit (signature_of m) ≡ true
merge_is_fit m good =
    let declared = declared_parts m.plan good.sound in
    signature_is_fit m good.sound (omega (arith, good.count, declared.some_uses)) (omega (arith, good.count, declared.few_uses)) good.are_named (few_elements m good.faultless)
