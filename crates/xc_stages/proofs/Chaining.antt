-- The stages that open a lattice and the viewpoints of a map, by the stages that they are made of.
use Rattle.std.proofs.Common.{◌≡◌, refl, ℕ, zero, suc, ◌+◌, ◌<◌, ◌≤◌, List, [], ◌∷◌, ◌++◌, length, map, drop, get_or, Result, Err, IfErr, sym, ◌∙◌, ap, subst, arith}
use Rattle.std.specs.Result.{IsErrAnd}
use Rattle.std.specs.String.{string_bytes}
use Rattle.std.specs.declared.alloc.Global.{Global}
use Rattle.std.specs.declared.string.String.{String}
use Rattle.std.proofs.lemmas.List.{map-append}
use Rattle.xc_base.specs.Shelves.{Shelved}
use Rattle.xc_lattice.specs.LatticeFiles.{LatticeValue}
use Rattle.xc_lattice.specs.Values.{value_of as lattice_of}
use Rattle.xc_laws.specs.declared.law.Law.{Law}
use Rattle.xc_lattice.specs.declared.lattice.Lattice.{Lattice}
use Rattle.xc_view.specs.ViewFiles.{ViewValue}
use Rattle.xc_view.specs.declared.view.View.{View}
use Rattle.xc_sigmap_lines.specs.declared.parts.Use.{Use}
use Rattle.xc_merge.specs.Merges.{Viewpoint}
use Rattle.xc_merge.specs.Merging.{viewpoint_of}
use Rattle.xc_lines.specs.Texts.{broken_line}
use Rattle.xc_lines.specs.declared.halt.Halt.{Halt}
use Rattle.xc_lines.specs.declared.halt.Halt.TheVariants.{Refused, Memory}
use Rattle.xc_course.specs.FileKinds.{Lattices, Views}
use Rattle.xc_course.specs.Trees.{Tree, Open, OnLawful, OpenLattice, OpenViewpoint, OpenViewpoints}
use Rattle.xc_course.specs.Works.{GoesOn, Stops, Works}
use Rattle.xc_course.proofs.Working.{passed_on, refuses, wants}
use Rattle.xc_stages.specs.Loaded.{OpensOn, verdict_of}
use Rattle.xc_stages.specs.declared.lattices.Judged.{Judged}
use Rattle.xc_stages.specs.declared.lattices.Judged.TheVariants.{Broken, Lawful}

-- a lattice, by the verdict on its file
module _ (name : List ℕ) (before now : Shelved) where
  pub lattice_halts : {X : Type 0} (result : Result X Halt) (halt : Halt) → IsErrAnd result (λ e. e ≡ halt) → Stops (Open Lattices name) before now halt → IfErr result (Stops (OpenLattice name) before now)
  lattice_halts result halt passed stopped = passed_on (Stops (OpenLattice name) before now) result halt passed (λ next out. stopped (OnLawful name next) out)

  module _ (judged : Judged) (found : GoesOn (Open Lattices name) before now (verdict_of judged)) where
    -- one that breaks no law
    pub lawful_on : (l : Lattice) → judged ≡ Lawful l → GoesOn (OpenLattice name) before now (lattice_of l)
    lawful_on l is = λ next after out out_after result h. found (OnLawful name next) after out out_after result (subst (λ (j : Judged). Works (OnLawful name next (verdict_of j)) now after out out_after result) (sym is) h)

    -- and one that breaks a law
    pub broken_stops : (law : Law) (names : List (List ℕ)) (line : String Global) → judged ≡ Broken law names → string_bytes line ≡ broken_line name law names → Stops (OpenLattice name) before now (Refused line)
    broken_stops law names line is told = λ next out. found (OnLawful name next) now out out (Err (Refused line))
        (subst (λ (j : Judged). Works (OnLawful name next (verdict_of j)) now now out out (Err (Refused line))) (sym is) (refuses (broken_line name law names) now out line told))

    pub judged_wants : {X : Type 0} (result : Result X Halt) → IsErrAnd result (λ e. e ≡ Memory) → IfErr result (Stops (OpenLattice name) before now)
    judged_wants result passed = passed_on (Stops (OpenLattice name) before now) result Memory passed (λ next out. found (OnLawful name next) now out out (Err Memory) (wants (OnLawful name next (verdict_of judged)) now out))

-- a viewpoint: the file of its view
module _ (file : List ℕ) (before : Shelved) where
  pub view_halts : {X : Type 0} (now : Shelved) (result : Result X Halt) (halt : Halt) → IsErrAnd result (λ e. e ≡ halt) → Stops (Open Views file) before now halt → IfErr result (Stops (OpenViewpoint file) before now)
  view_halts now result halt passed stopped = passed_on (Stops (OpenViewpoint file) before now) result halt passed (λ next out. stopped (λ v. OpenLattice v.lattice (λ l. next (record { view = v; lattice = l }))) out)

  -- and behind it the file of its lattice
  module _ (v : ViewValue) (lattice : List ℕ) (mid now : Shelved) (found : GoesOn (Open Views file) before mid v) (named : lattice ≡ v.lattice) where
    pub viewpoint_on : (l : LatticeValue) → GoesOn (OpenLattice lattice) mid now l → GoesOn (OpenViewpoint file) before now (record { view = v; lattice = l })
    viewpoint_on l lawful = λ next after out out_after result h.
        found (λ w. OpenLattice w.lattice (λ k. next (record { view = w; lattice = k }))) after out out_after result
        (subst (λ (n : List ℕ). Works (OpenLattice n (λ k. next (record { view = v; lattice = k }))) mid after out out_after result) named (lawful (λ k. next (record { view = v; lattice = k })) after out out_after result h))

    pub viewpoint_halts : {X : Type 0} (result : Result X Halt) (halt : Halt) → IsErrAnd result (λ e. e ≡ halt) → Stops (OpenLattice lattice) mid now halt → IfErr result (Stops (OpenViewpoint file) before now)
    viewpoint_halts result halt passed stopped = passed_on (Stops (OpenViewpoint file) before now) result halt passed (λ next out.
        found (λ w. OpenLattice w.lattice (λ k. next (record { view = w; lattice = k }))) now out out (Err halt)
        (subst (λ (n : List ℕ). Works (OpenLattice n (λ k. next (record { view = v; lattice = k }))) mid now out out (Err halt)) named (stopped (λ k. next (record { view = v; lattice = k })) out)))

-- the viewpoints of some files: at first all files are left
pub all_left : (files : List (List ℕ)) (now : Shelved) → OpensOn files files [] now now
all_left files now = record { by = λ next after out out_after result h. h }

abbrev pub file_of : Use → List ℕ
file_of u = u.file

files_left : (uses : List Use) (i : ℕ) (u : Use) → i < length uses → u ≡ get_or uses i u → drop i (map file_of uses) ≡ u.file ∷ drop (i + 1) (map file_of uses)
files_left [] i u low is = absurd (omega arith)
files_left (v ∷ uses) zero u low is = rw is refl
files_left (v ∷ uses) (suc i) u low is = let e : suc i + 1 ≡ suc (i + 1) = omega arith in rw e (files_left uses i u (omega arith) is)

none_left : (uses : List Use) (i : ℕ) → length uses ≤ i → drop i (map file_of uses) ≡ []
none_left [] zero past = refl
none_left [] (suc i) past = refl
none_left (v ∷ uses) zero past = absurd (omega arith)
none_left (v ∷ uses) (suc i) past = none_left uses i (omega arith)

module _ (uses : List Use) (i : ℕ) (views : List (View × Lattice)) (before mid : Shelved) (so_far : OpensOn (map file_of uses) (drop i (map file_of uses)) (map viewpoint_of views) before mid) where
  module _ (u : Use) (name : List ℕ) (now : Shelved) (low : i < length uses) (is : u ≡ get_or uses i u) (named : name ≡ u.file) where
    -- the next viewpoint was opened
    pub one_opened : (p : View × Lattice) (more : List (View × Lattice)) → GoesOn (OpenViewpoint name) mid now (viewpoint_of p) → more ≡ views ++ p ∷ [] → OpensOn (map file_of uses) (drop (i + 1) (map file_of uses)) (map viewpoint_of more) before now
    one_opened p more found pushed =
        let behind : (List Viewpoint → Tree) → Viewpoint → Tree = λ next q. OpenViewpoints (drop (i + 1) (map file_of uses)) (map viewpoint_of views ++ q ∷ []) next in
        let all : map viewpoint_of more ≡ map viewpoint_of views ++ viewpoint_of p ∷ [] = ap (map viewpoint_of) pushed ∙ map-append viewpoint_of views (p ∷ []) in
        record {
          by = λ next after out out_after result h. so_far.by next after out out_after result
              (subst (λ (left : List (List ℕ)). Works (OpenViewpoints left (map viewpoint_of views) next) mid after out out_after result) (sym (files_left uses i u low is))
              (subst (λ (n : List ℕ). Works (OpenViewpoint n (behind next)) mid after out out_after result) named
              (found (behind next) after out out_after result
              (subst (λ (ps : List Viewpoint). Works (OpenViewpoints (drop (i + 1) (map file_of uses)) ps next) now after out out_after result) all h))));
        }

    module _ (all : List Use) (same : uses ≡ all) where
      -- it was not
      pub one_stopped : {X : Type 0} (result : Result X Halt) (halt : Halt) → IsErrAnd result (λ e. e ≡ halt) → Stops (OpenViewpoint name) mid now halt → IfErr result (Stops (OpenViewpoints (map file_of all) []) before now)
      one_stopped result halt passed stopped =
          let behind : (List Viewpoint → Tree) → Viewpoint → Tree = λ next q. OpenViewpoints (drop (i + 1) (map file_of uses)) (map viewpoint_of views ++ q ∷ []) next in
          let of_all : OpensOn (map file_of all) (drop i (map file_of uses)) (map viewpoint_of views) before mid = subst (λ (us : List Use). OpensOn (map file_of us) (drop i (map file_of uses)) (map viewpoint_of views) before mid) same so_far in
          passed_on (Stops (OpenViewpoints (map file_of all) []) before now) result halt passed (λ next out. of_all.by next now out out (Err halt)
          (subst (λ (left : List (List ℕ)). Works (OpenViewpoints left (map viewpoint_of views) next) mid now out out (Err halt)) (sym (files_left uses i u low is))
          (subst (λ (n : List ℕ). Works (OpenViewpoint n (behind next)) mid now out out (Err halt)) named (stopped (behind next) out))))

      -- it was, and there is no memory for it
      pub one_wants : {X : Type 0} (p : View × Lattice) (result : Result X Halt) → IsErrAnd result (λ e. e ≡ Memory) → GoesOn (OpenViewpoint name) mid now (viewpoint_of p) → IfErr result (Stops (OpenViewpoints (map file_of all) []) before now)
      one_wants p result passed found =
          let more : List (View × Lattice) = views ++ p ∷ [] in
          let left : List (List ℕ) = drop (i + 1) (map file_of uses) in
          let of_all : OpensOn (map file_of all) left (map viewpoint_of more) before now = subst (λ (us : List Use). OpensOn (map file_of us) left (map viewpoint_of more) before now) same (one_opened p more found refl) in
          passed_on (Stops (OpenViewpoints (map file_of all) []) before now) result Memory passed (λ next out. of_all.by next now out out (Err Memory) (wants (OpenViewpoints left (map viewpoint_of more) next) now out))

  -- no file is left
  pub all_opened : (all : List Use) → uses ≡ all → length uses ≤ i → GoesOn (OpenViewpoints (map file_of all) []) before mid (map viewpoint_of views)
  all_opened all same past =
      subst (λ (us : List Use). GoesOn (OpenViewpoints (map file_of us) []) before mid (map viewpoint_of views)) same
      (λ next after out out_after result h. so_far.by next after out out_after result (subst (λ (left : List (List ℕ)). Works (OpenViewpoints left (map viewpoint_of views) next) mid after out out_after result) (sym (none_left uses i past)) h))
