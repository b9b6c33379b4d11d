-- A course has an end, whatever its loads find.
use Rattle.std.proofs.Common.{◌≡◌, ℕ, List, Option, Some, None, MatchOption, refl, inl, inr, ◌⊎◌}
use Rattle.xc_base.specs.Formats.{Row, Format, IsAccepted, IsFirstFault}
use Rattle.xc_base.specs.declared.fault.FileFault.{FileFault}
use Rattle.xc_base.specs.declared.fault.TextFault.{TextFault}
use Rattle.xc_base.specs.declared.shelf.File.{File}
use Rattle.xc_base.specs.Lines.{text_rows}
use Rattle.xc_base.specs.Shelves.{held}
use Rattle.xc_base.specs.Text.{text_fault}
use Rattle.xc_lattice.specs.LatticeFiles.{Verdict, Faulty, Unlawful, Lawful, IsVerdict}
use Rattle.xc_lattice.proofs.Existence.{each_has_verdict}
use Rattle.xc_view.specs.ViewFiles.{view_format}
use Rattle.xc_view.proofs.Verdicts.{files_are_judged as each_view_is_judged}
use Rattle.xc_sigmap_lines.specs.MapFiles.{map_format}
use Rattle.xc_sigmap.proofs.Verdicts.{files_are_judged as each_map_is_judged}
use Rattle.xc_formula_text.specs.FormulaFiles.{formula_format}
use Rattle.xc_formula_text.proofs.Verdicts.{formula_files_are_judged}
use Rattle.xc_lines.specs.Texts.{text_line, fault_line}
use Rattle.xc_course.specs.Courses.{Course, Event, Ends, Outcome, Absent, Refusal, Served, Opens, Reads, always, rest}
use Rattle.xc_course.specs.Courses.Reads.{faulty, accepted}
use Rattle.xc_course.specs.FileKinds.{FileKind, Lattices, Views, Maps, Formulas, Found, limit_of, Judges, ReadsKind}
use Rattle.xc_course.specs.Laws.{CoursesEnd}
use Rattle.xc_course.specs.Trees.{Tree, Open, Over, Refuse, Serve, Happens}

-- what may happen has an end
abbrev pub SomeEnd : (Event → Type 0) → Type 0
SomeEnd P = (outcome : Outcome) × P (Ends outcome)

some_cut : (name : List ℕ) (next : Event → Type 0) (fault : Option TextFault) → SomeEnd next → SomeEnd (λ event. MatchOption fault (next event) (λ f. event ≡ Ends (Refusal (text_line name f))))
some_cut name next None some = some
some_cut name next (Some fault) some = (Refusal (text_line name fault), refl)

some_load : (limit : ℕ) (name : List ℕ) (next : List Row → Event → Type 0) (found : Option (List ℕ)) → ((rows : List Row) → SomeEnd (next rows))
    → SomeEnd (λ event. MatchOption found (event ≡ Ends (Absent name)) (λ bytes. MatchOption (text_fault limit bytes) (next (text_rows bytes) event) (λ f. event ≡ Ends (Refusal (text_line name f)))))
some_load limit name next None some = (Absent name, refl)
some_load limit name next (Some bytes) some = some_cut name (next (text_rows bytes)) (text_fault limit bytes) (some (text_rows bytes))

some_opened : (limit : ℕ) (name : List ℕ) (next : List Row → Course) (m : ℕ → List File) → ((rows : List Row) → SomeEnd (next rows (rest m))) → SomeEnd (Opens limit name next m)
some_opened limit name next m some = let found = some_load limit name (λ rows. next rows (rest m)) (held (m 0) name) some in (found.0, inr found.1)

some_read : {S V : Type 0} (format : Format S V) (name : List ℕ) (next : V → Course) (rows : List Row) (m : ℕ → List File) → ((v : V) → SomeEnd (next v m)) → ((v : V) × IsAccepted format rows v) ⊎ ((fault : FileFault) × IsFirstFault format rows fault) → SomeEnd (Reads format name next rows m)
some_read format name next rows m some (inl found) = let end = some found.0 in (end.0, accepted found.0 found.1 end.1)
some_read format name next rows m some (inr fault) = (Refusal (fault_line name fault.0), faulty fault.0 fault.1 refl)

some_judged : (name : List ℕ) (next : Verdict → Course) (rows : List Row) (m : ℕ → List File) → ((v : Verdict) → SomeEnd (next v m)) → (verdict : Verdict) → IsVerdict rows verdict → SomeEnd (Judges name next rows m)
some_judged name next rows m some (Faulty fault) is = (Refusal (fault_line name fault), record { verdict = Faulty fault; judged = is; comes = refl })
some_judged name next rows m some (Unlawful law names) is = let end = some (Unlawful law names) in (end.0, record { verdict = Unlawful law names; judged = is; comes = end.1 })
some_judged name next rows m some (Lawful l) is = let end = some (Lawful l) in (end.0, record { verdict = Lawful l; judged = is; comes = end.1 })

some_kind : (kind : FileKind) (name : List ℕ) (next : Found kind → Course) (rows : List Row) (m : ℕ → List File) → ((x : Found kind) → SomeEnd (next x m)) → SomeEnd (ReadsKind kind name next rows m)
some_kind Lattices name next rows m some = let verdict = each_has_verdict rows in some_judged name next rows m some verdict.0 verdict.1
some_kind Views name next rows m some = some_read view_format name next rows m some (each_view_is_judged rows)
some_kind Maps name next rows m some = some_read map_format name next rows m some (each_map_is_judged rows)
some_kind (Formulas signature) name next rows m some = some_read (formula_format signature) name next rows m some (formula_files_are_judged signature rows)

-- so has each tree
pub some_end : (tree : Tree) (m : ℕ → List File) → SomeEnd (Happens tree m)
some_end (Open kind name next) m =
    some_opened (limit_of kind) name (ReadsKind kind name (λ found. Happens (next found))) m
    (λ rows. some_kind kind name (λ found. Happens (next found)) rows (rest m) (λ found. some_end (next found) (rest m)))
some_end (Over files tree) m = let end = some_end tree (always files) in (end.0, end.1)
some_end (Refuse line) m = (Refusal line, refl)
some_end (Serve status items) m = (Served status items, refl)

pub courses_end : CoursesEnd
courses_end tree moments = some_end tree moments
