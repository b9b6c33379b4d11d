-- Where a request is served, its items have one text.
use Rattle.std.proofs.Common.{◌≡◌, false, codes, ℕ, ◌+◌, [], ◌∷◌, ◌++◌, length-append, List, Option, Some, None, MatchOption, length, refl, sym, subst, arith, inl, inr}
use Rattle.std.specs.Option.{option_map}
use Rattle.std.proofs.lemmas.List.{length-map}
use Rattle.xc_base.specs.Canonical.{canonical}
use Rattle.xc_base.specs.Formats.{Row, Format, IsAccepted}
use Rattle.xc_base.specs.Lines.{text_rows}
use Rattle.xc_base.specs.Shelves.{held}
use Rattle.xc_base.specs.Text.{text_fault}
use Rattle.xc_base.specs.declared.fault.TextFault.{TextFault}
use Rattle.xc_base.specs.declared.shelf.File.{File}
use Rattle.xc_lattice.specs.LatticeFiles.{LatticeValue, Verdict, Faulty, Unlawful, Lawful, IsVerdict}
use Rattle.xc_lattice.specs.Printed.{lattice_lines}
use Rattle.xc_view.specs.Printing.{view_lines}
use Rattle.xc_view.specs.ViewFiles.{view_format}
use Rattle.xc_sigmap_lines.specs.MapFiles.{MapValue, map_format}
use Rattle.xc_sigmap_text.specs.Printing.{map_lines}
use Rattle.xc_sigmap_lines.specs.declared.parts.Use.{Use}
use Rattle.xc_merge.specs.Faults.{merge_fault}
use Rattle.xc_merge.specs.Merges.{Merge, Viewpoint}
use Rattle.xc_merge.specs.declared.fault.MergeFault.{MergeFault}
use Rattle.xc_formula_text.specs.FormulaFiles.{formula_format}
use Rattle.xc_ctl.specs.declared.kind.Kind.{Kind}
use Rattle.xc_report.proofs.Framed.{IsGood, accepted_is_sound}
use Rattle.xc_report.proofs.Lattices.{IsNamed, AreNamed, named_more, file_is_named}
use Rattle.xc_report.specs.Reports.{signature_of}
use Rattle.xc_gen.specs.Generated.{files_of as generated_files}
use Rattle.xc_words.specs.declared.asked.Request.{Request}
use Rattle.xc_words.specs.declared.asked.Request.TheVariants.{Lattice, Check, Show, Gen}
use Rattle.xc_words.specs.declared.asked.ShowKind.{ShowKind}
use Rattle.xc_words.specs.declared.asked.ShowKind.TheVariants as kinds
use Rattle.xc_lines.specs.Texts.{text_line, fault_line, broken_line, broken_text, merge_line}
use Rattle.xc_lines.specs.declared.status.Status.TheVariants.{Done, No}
use Rattle.xc_course.specs.Courses.{Course, Event, Ends, Loading, Outcome, Absent, Refusal, Served, Opens, Reads, always, rest}
use Rattle.xc_course.specs.Courses.Reads.{faulty, accepted}
use Rattle.xc_course.specs.FileKinds.{Lattices, Views, Maps, Formulas, limit_of, ComesOf, ReadsKind}
use Rattle.xc_course.specs.Items.{Fixed, Described}
use Rattle.xc_course.specs.Trees.{Tree, Open, Over, Serve, Happens, Unless, Merges, Within, states_refusal, OnLawful, OpenLattice, OpenViewpoint, OpenViewpoints, files_of}
use Rattle.xc_show.specs.Showing.{LatticeTree, Verdicts, ShowTree, Shows}
use Rattle.xc_eval.specs.Checking.{CheckTree, report_items, size_refusal, state_limit}
use Rattle.xc_top.specs.Requests.{course_of}
use Rattle.xc_top.proofs.Formulas.{good_formulas}
use Rattle.xc_top.proofs.Texts.{AreWorded, fixed_text, described_text, report_is_worded}

-- the items of a served outcome have one text each
abbrev pub IsWorded : Outcome → Type 0
IsWorded (Served status items) = AreWorded items
IsWorded (Absent name) = Unit {0}
IsWorded (Refusal line) = Unit {0}

-- so it is however this ends
abbrev EndsWorded : (Event → Type 0) → Type 0
EndsWorded P = (outcome : Outcome) → P (Ends outcome) → IsWorded outcome

same_end : {outcome other : Outcome} → Ends outcome ≡ Ends other → outcome ≡ other
same_end e = cc

no_load : {name : List ℕ} {outcome : Outcome} {X : Type 0} → Ends outcome ≡ Loading name → X
no_load e = cc

end_worded : (other : Outcome) → IsWorded other → EndsWorded (λ event. event ≡ Ends other)
end_worded other h outcome e = subst IsWorded (sym (same_end e)) h

cut_worded : (name : List ℕ) (next : Event → Type 0) (fault : Option TextFault) → EndsWorded next → EndsWorded (λ event. MatchOption fault (next event) (λ f. event ≡ Ends (Refusal (text_line name f))))
cut_worded name next None worded outcome h = worded outcome h
cut_worded name next (Some f) worded outcome h = end_worded (Refusal (text_line name f)) tt outcome h

found_worded : (limit : ℕ) (name : List ℕ) (next : List Row → Event → Type 0) (found : Option (List ℕ)) → ((rows : List Row) → EndsWorded (next rows))
    → EndsWorded (λ event. MatchOption found (event ≡ Ends (Absent name)) (λ bytes. MatchOption (text_fault limit bytes) (next (text_rows bytes) event) (λ f. event ≡ Ends (Refusal (text_line name f)))))
found_worded limit name next None worded outcome h = end_worded (Absent name) tt outcome h
found_worded limit name next (Some bytes) worded outcome h = cut_worded name (next (text_rows bytes)) (text_fault limit bytes) (worded (text_rows bytes)) outcome h

opens_worded : (limit : ℕ) (name : List ℕ) (next : List Row → Course) (m : ℕ → List File) → ((rows : List Row) → EndsWorded (next rows (rest m))) → EndsWorded (Opens limit name next m)
opens_worded limit name next m worded outcome (inl e) = no_load e
opens_worded limit name next m worded outcome (inr h) = found_worded limit name (λ rows. next rows (rest m)) (held (m 0) name) worded outcome h

reads_worded : {S V : Type 0} (format : Format S V) (name : List ℕ) (next : V → Course) (rows : List Row) (m : ℕ → List File) → ((v : V) → IsAccepted format rows v → EndsWorded (next v m)) → EndsWorded (Reads format name next rows m)
reads_worded format name next rows m worded outcome (faulty fault first e) = end_worded (Refusal (fault_line name fault)) tt outcome e
reads_worded format name next rows m worded outcome (accepted v is h) = worded v is outcome h

-- where a line is refused, or the work goes on
unless_worded : (line : Option (List ℕ)) (tree : Tree) (m : ℕ → List File) → (line ≡ None → EndsWorded (Happens tree m)) → EndsWorded (Happens (Unless line tree) m)
unless_worded None tree m worded outcome h = worded refl outcome h
unless_worded (Some line) tree m worded outcome h = end_worded (Refusal line) tt outcome h

-- a lattice file
lattice_comes : (name : List ℕ) (next : LatticeValue → Tree) (rows : List Row) (m : ℕ → List File) → ((l : LatticeValue) → IsNamed l → EndsWorded (Happens (next l) m)) → (verdict : Verdict) → IsVerdict rows verdict → EndsWorded (ComesOf name (λ v. Happens (OnLawful name next v)) verdict m)
lattice_comes name next rows m worded (Faulty fault) is outcome h = end_worded (Refusal (fault_line name fault)) tt outcome h
lattice_comes name next rows m worded (Unlawful law names) is outcome h = end_worded (Refusal (broken_line name law names)) tt outcome h
lattice_comes name next rows m worded (Lawful l) is outcome h = worded l (file_is_named rows l is) outcome h

lattice_worded : (name : List ℕ) (next : LatticeValue → Tree) (m : ℕ → List File) → ((l : LatticeValue) → IsNamed l → (later : ℕ → List File) → EndsWorded (Happens (next l) later)) → EndsWorded (Happens (OpenLattice name next) m)
lattice_worded name next m worded =
    opens_worded (limit_of Lattices) name (ReadsKind Lattices name (λ v. Happens (OnLawful name next v))) m
    (λ rows outcome h. lattice_comes name next rows (rest m) (λ l is. worded l is (rest m)) h.verdict h.judged outcome h.comes)

-- and its judgement
verdict_worded : (name : List ℕ) (rows : List Row) (m : ℕ → List File) (verdict : Verdict) → IsVerdict rows verdict → EndsWorded (ComesOf name (λ v. Happens (Verdicts name v)) verdict m)
verdict_worded name rows m (Faulty fault) is outcome h = end_worded (Refusal (fault_line name fault)) tt outcome h
verdict_worded name rows m (Unlawful law names) is outcome h = end_worded (Served No (Fixed (broken_text law names) ∷ [])) (fixed_text (broken_text law names), tt) outcome h
verdict_worded name rows m (Lawful l) is outcome h = end_worded (Served Done (Described l ∷ [])) (described_text l (file_is_named rows l is), tt) outcome h

judged_worded : (name : List ℕ) (m : ℕ → List File) → EndsWorded (Happens (LatticeTree name) m)
judged_worded name m =
    opens_worded (limit_of Lattices) name (ReadsKind Lattices name (λ v. Happens (Verdicts name v))) m
    (λ rows outcome h. verdict_worded name rows (rest m) h.verdict h.judged outcome h.comes)

-- a viewpoint, and viewpoints with the lattices of files, as many as those found and the files
viewpoint_worded : (file : List ℕ) (next : Viewpoint → Tree) (m : ℕ → List File) → ((p : Viewpoint) → IsNamed p.lattice → (later : ℕ → List File) → EndsWorded (Happens (next p) later)) → EndsWorded (Happens (OpenViewpoint file next) m)
viewpoint_worded file next m worded =
    opens_worded (limit_of Views) file (ReadsKind Views file (λ v. Happens (OpenLattice v.lattice (λ l. next (record { view = v; lattice = l }))))) m
    (λ rows. reads_worded view_format file (λ v. Happens (OpenLattice v.lattice (λ l. next (record { view = v; lattice = l })))) rows (rest m)
    (λ v is_read. lattice_worded v.lattice (λ l. next (record { view = v; lattice = l })) (rest m) (λ l is. worded (record { view = v; lattice = l }) is)))

viewpoints_worded : (files : List (List ℕ)) (found : List Viewpoint) (next : List Viewpoint → Tree) (m : ℕ → List File) (count : ℕ) → length found + length files ≡ count → AreNamed found
    → ((all : List Viewpoint) → length all ≡ count → AreNamed all → (later : ℕ → List File) → EndsWorded (Happens (next all) later)) → EndsWorded (Happens (OpenViewpoints files found next) m)
viewpoints_worded [] found next m count e are worded = worded found (omega arith) are m
viewpoints_worded (file ∷ files) found next m count e are worded =
    viewpoint_worded file (λ p. OpenViewpoints files (found ++ p ∷ []) next) m
    (λ p is later. viewpoints_worded files (found ++ p ∷ []) next later count (omega (arith, length-append found (p ∷ []))) (named_more found p are is) worded)

-- what is merged
no_fault : (fault : Option MergeFault) → option_map merge_line fault ≡ None → fault ≡ None
no_fault None e = refl
no_fault (Some fault) e = cc

abbrev merge_of : MapValue → List Viewpoint → Merge
merge_of plan all = record { plan = plan; viewpoints = all }

-- the formulas over it
abbrev Evaluates : Merge → List (List Kind) → Tree
Evaluates m fs = Within state_limit m (λ x. Serve Done (report_items false m fs))

abbrev FormulasTree : List ℕ → Merge → Tree
FormulasTree name m = Open (Formulas (signature_of m)) name (Evaluates m)

formulas_worded : (name : List ℕ) (m : Merge) (moments : ℕ → List File) → IsGood m → EndsWorded (Happens (FormulasTree name m) moments)
formulas_worded name m moments good =
    opens_worded (limit_of (Formulas (signature_of m))) name (ReadsKind (Formulas (signature_of m)) name (λ fs. Happens (Evaluates m fs))) moments
    (λ rows. reads_worded (formula_format (signature_of m)) name (λ fs. Happens (Evaluates m fs)) rows (rest moments)
    (λ fs is. unless_worded (states_refusal state_limit m) (Serve Done (report_items false m fs)) (rest moments)
    (λ few. end_worded (Served Done (report_items false m fs)) (report_is_worded false m fs good.are_named (good_formulas m rows fs good is)))))

-- a check
check_worded : (sigmap formulas : List ℕ) (m : ℕ → List File) → EndsWorded (Happens (CheckTree sigmap formulas) m)
check_worded sigmap formulas m =
    opens_worded (limit_of Maps) sigmap (ReadsKind Maps sigmap (λ plan. Happens (OpenViewpoints (files_of plan) [] (λ found. Merges plan found (FormulasTree formulas))))) m
    (λ rows. reads_worded map_format sigmap (λ plan. Happens (OpenViewpoints (files_of plan) [] (λ found. Merges plan found (FormulasTree formulas)))) rows (rest m)
    (λ plan is. viewpoints_worded (files_of plan) [] (λ found. Merges plan found (FormulasTree formulas)) (rest m) (length plan.uses) (omega (arith, length-map plan.uses (λ (u : Use). u.file))) tt
    (λ all many are later. unless_worded (option_map merge_line (merge_fault (merge_of plan all))) (FormulasTree formulas (merge_of plan all)) later
    (λ none. formulas_worded formulas (merge_of plan all) later
    (record { sound = accepted_is_sound rows plan is; count = many; are_named = are; faultless = no_fault (merge_fault (merge_of plan all)) none })))))

-- what is shown
shown_worded : (lines : List (List (List ℕ))) (m : ℕ → List File) → EndsWorded (Happens (Shows lines) m)
shown_worded lines m = end_worded (Served Done (Fixed (canonical lines) ∷ [])) (fixed_text (canonical lines), tt)

show_worded : (kind : ShowKind) (name : List ℕ) (m : ℕ → List File) → EndsWorded (Happens (ShowTree kind name) m)
show_worded kinds.Lattice name m = lattice_worded name (λ l. Shows (lattice_lines l)) m (λ l is. shown_worded (lattice_lines l))
show_worded kinds.View name m =
    opens_worded (limit_of Views) name (ReadsKind Views name (λ v. Happens (Shows (view_lines v)))) m
    (λ rows. reads_worded view_format name (λ v. Happens (Shows (view_lines v))) rows (rest m) (λ v is. shown_worded (view_lines v) (rest m)))
show_worded kinds.Map name m =
    opens_worded (limit_of Maps) name (ReadsKind Maps name (λ plan. Happens (Shows (map_lines plan)))) m
    (λ rows. reads_worded map_format name (λ plan. Happens (Shows (map_lines plan))) rows (rest m) (λ plan is. shown_worded (map_lines plan) (rest m)))

-- so it is with each request
pub course_worded : (request : Request) (m : ℕ → List File) → EndsWorded (Happens (course_of request) m)
course_worded (Lattice name) m = judged_worded name m
course_worded (Check sigmap formulas witness plain size) m = check_worded sigmap formulas m
course_worded (Show kind name) m = show_worded kind name m
course_worded (Gen number size) m =
    unless_worded (size_refusal size) (Over (generated_files number size) (CheckTree (codes "gen.map") (codes "gen.ctl"))) m
    (λ none outcome h. check_worded (codes "gen.map") (codes "gen.ctl") (always (generated_files number size)) outcome h)
