-- Where each load of a course over some files finds its file.
use Rattle.std.proofs.Common.{◌≡◌, ℕ, List, Option, Some, None, MatchOption, IsSome, refl, ap, subst, inl, inr, ◌∙◌}
use Rattle.xc_base.specs.Formats.{Row, Format, IsAccepted}
use Rattle.xc_base.specs.Lines.{text_rows}
use Rattle.xc_base.specs.Text.{text_fault}
use Rattle.xc_base.specs.Shelves.{held}
use Rattle.xc_base.specs.declared.shelf.File.{File}
use Rattle.xc_base.specs.declared.fault.TextFault.{TextFault}
use Rattle.xc_lattice.specs.LatticeFiles.{LatticeValue, Verdict, Faulty, Unlawful, Lawful}
use Rattle.xc_view.specs.ViewFiles.{ViewValue, view_format}
use Rattle.xc_merge.specs.Merges.{Viewpoint}
use Rattle.xc_lines.specs.Texts.{text_line}
use Rattle.xc_course.specs.Courses.{Course, Outcome, Absent, Refusal, Ends, Loading, always, Cuts, Opens, Reads}
use Rattle.xc_course.specs.Courses.Reads.{faulty, accepted}
use Rattle.xc_course.specs.FileKinds.{Judges, ComesOf}
use Rattle.xc_course.specs.Trees.{Tree, Happens, Unless, OnLawful, OpenLattice, OpenViewpoint}

-- each load that a course reaches over these files finds its file
abbrev pub Finds : List File → Course → Type 0
Finds files tasks = (name : List ℕ) → tasks (always files) (Loading name) → IsSome (held files name)

no_end : {name : List ℕ} {o : Outcome} {X : Type 0} → Loading name ≡ Ends o → X
no_end e = cc

same_name : {name other : List ℕ} → Loading name ≡ Loading other → other ≡ name
same_name e = cc

some_is : (found : Option (List ℕ)) (bytes : List ℕ) → found ≡ Some bytes → IsSome found
some_is None bytes e = cc
some_is (Some b) bytes e = refl

module _ (files : List File) where
  cut_finds : (file bytes name : List ℕ) (next : List Row → Course) (fault : Option TextFault) → Finds files (next (text_rows bytes)) → MatchOption fault (next (text_rows bytes) (always files) (Loading name)) (λ f. Loading name ≡ Ends (Refusal (text_line file f))) → IsSome (held files name)
  cut_finds file bytes name next None finds h = finds name h
  cut_finds file bytes name next (Some f) finds h = no_end h

  pub opens_finds : (limit : ℕ) (file bytes : List ℕ) (next : List Row → Course) → held files file ≡ Some bytes → Finds files (next (text_rows bytes)) → Finds files (Opens limit file next)
  opens_finds limit file bytes next e finds name (inl reached) = subst (λ (n : List ℕ). IsSome (held files n)) (same_name reached) (some_is (held files file) bytes e)
  opens_finds limit file bytes next e finds name (inr h) =
      cut_finds file bytes name next (text_fault limit bytes) finds
      (subst (λ (found : Option (List ℕ)). MatchOption found (Loading name ≡ Ends (Absent file)) (λ b. Cuts limit file next b (always files) (Loading name))) e h)

  pub reads_finds : {S V : Type 0} (format : Format S V) (file : List ℕ) (next : V → Course) (rows : List Row) → ((v : V) → IsAccepted format rows v → Finds files (next v)) → Finds files (Reads format file next rows)
  reads_finds format file next rows finds name (faulty fault first is) = no_end is
  reads_finds format file next rows finds name (accepted v is h) = finds v is name h

  verdict_finds : (file : List ℕ) (next : LatticeValue → Tree) (verdict : Verdict) → ((l : LatticeValue) → Finds files (Happens (next l))) → Finds files (ComesOf file (λ v. Happens (OnLawful file next v)) verdict)
  verdict_finds file next (Faulty fault) finds name h = no_end h
  verdict_finds file next (Unlawful law names) finds name h = no_end h
  verdict_finds file next (Lawful l) finds name h = finds l name h

  lattice_finds : (file : List ℕ) (next : LatticeValue → Tree) (rows : List Row) → ((l : LatticeValue) → Finds files (Happens (next l))) → Finds files (Judges file (λ v. Happens (OnLawful file next v)) rows)
  lattice_finds file next rows finds name h = verdict_finds file next h.verdict finds name h.comes

  -- a viewpoint whose view names that lattice
  pub viewpoint_finds : (file view lattice bytes : List ℕ) (next : Viewpoint → Tree) → held files file ≡ Some view → ((v : ViewValue) → IsAccepted view_format (text_rows view) v → v.lattice ≡ lattice) → held files lattice ≡ Some bytes
      → ((p : Viewpoint) → Finds files (Happens (next p))) → Finds files (Happens (OpenViewpoint file next))
  viewpoint_finds file view lattice bytes next is named of finds =
      opens_finds 1048576 file view (Reads view_format file (λ v. Happens (OpenLattice v.lattice (λ l. next (record { view = v; lattice = l }))))) is
      (reads_finds view_format file (λ v. Happens (OpenLattice v.lattice (λ l. next (record { view = v; lattice = l })))) (text_rows view)
      (λ v read. opens_finds 1048576 v.lattice bytes (Judges v.lattice (λ verdict. Happens (OnLawful v.lattice (λ l. next (record { view = v; lattice = l })) verdict))) (ap (held files) (named v read) ∙ of)
      (lattice_finds v.lattice (λ l. next (record { view = v; lattice = l })) (text_rows bytes) (λ l. finds (record { view = v; lattice = l })))))

  pub unless_finds : (refusal : Option (List ℕ)) (next : Tree) → Finds files (Happens next) → Finds files (Happens (Unless refusal next))
  unless_finds None next finds name h = finds name h
  unless_finds (Some line) next finds name h = no_end h
