-- A course has one end at most.
use Rattle.std.proofs.Common.{◌≡◌, ℕ, List, Option, Some, None, MatchOption, sym, ap, ◌∙◌, subst, inl, inr}
use Rattle.xc_base.specs.Formats.{Row, Format, IsAccepted, IsFirstFault}
use Rattle.xc_base.specs.declared.fault.FileFault.{FileFault}
use Rattle.xc_base.specs.declared.fault.TextFault.{TextFault}
use Rattle.xc_base.specs.declared.shelf.File.{File}
use Rattle.xc_base.specs.Lines.{text_rows}
use Rattle.xc_base.specs.Shelves.{held}
use Rattle.xc_base.specs.Text.{text_fault}
use Rattle.xc_lattice.specs.LatticeFiles.{Verdict, Faulty, Unlawful, Lawful}
use Rattle.xc_lattice.proofs.Verdicts.{verdicts_are_unique}
use Rattle.xc_view.specs.ViewFiles.{view_format}
use Rattle.xc_view.proofs.Verdicts.{views_are_unique, faults_are_unique as view_faults_are_unique, accepted_is_faultless as views_have_no_fault}
use Rattle.xc_sigmap_lines.specs.MapFiles.{map_format}
use Rattle.xc_sigmap.proofs.Verdicts.{maps_are_unique, faults_are_unique as map_faults_are_unique, accepted_is_faultless as maps_have_no_fault}
use Rattle.xc_formula_text.specs.FormulaFiles.{formula_format}
use Rattle.xc_ctl.specs.Trees.{Signature}
use Rattle.xc_formula_text.proofs.Verdicts.{tables_are_unique, formula_faults_are_unique, formulas_have_no_fault}
use Rattle.xc_lines.specs.Texts.{text_line, fault_line}
use Rattle.xc_course.specs.Courses.{Course, Event, Ends, Loading, Outcome, Absent, Refusal, Opens, Reads, always, rest}
use Rattle.xc_course.specs.Courses.Reads.{faulty, accepted}
use Rattle.xc_course.specs.FileKinds.{FileKind, Lattices, Views, Maps, Formulas, Found, limit_of, ComesOf, Judges, ReadsKind}
use Rattle.xc_course.specs.Laws.{CoursesEndOnce}
use Rattle.xc_course.specs.Trees.{Tree, Open, Over, Refuse, Serve, Happens}

-- what may happen has one end at most
abbrev pub Once : (Event → Type 0) → Type 0
Once P = (outcome other : Outcome) → P (Ends outcome) → P (Ends other) → outcome ≡ other

same_end : {outcome other : Outcome} → Ends outcome ≡ Ends other → outcome ≡ other
same_end e = cc

no_load : {name : List ℕ} {outcome : Outcome} {X : Type 0} → Ends outcome ≡ Loading name → X
no_load e = cc

-- two ends at one event
both_end : {outcome other : Outcome} {event : Event} → Ends outcome ≡ event → Ends other ≡ event → outcome ≡ other
both_end a b = same_end (a ∙ sym b)

cut_once : (name : List ℕ) (next : Event → Type 0) (fault : Option TextFault) → Once next
    → Once (λ event. MatchOption fault (next event) (λ f. event ≡ Ends (Refusal (text_line name f))))
cut_once name next None once o p a b = once o p a b
cut_once name next (Some f) once o p a b = both_end a b

found_once : (limit : ℕ) (name : List ℕ) (next : List Row → Event → Type 0) (found : Option (List ℕ)) → ((rows : List Row) → Once (next rows))
    → Once (λ event. MatchOption found (event ≡ Ends (Absent name)) (λ bytes. MatchOption (text_fault limit bytes) (next (text_rows bytes) event) (λ f. event ≡ Ends (Refusal (text_line name f)))))
found_once limit name next None once o p a b = both_end a b
found_once limit name next (Some bytes) once o p a b = cut_once name (next (text_rows bytes)) (text_fault limit bytes) (once (text_rows bytes)) o p a b

opens_once : (limit : ℕ) (name : List ℕ) (next : List Row → Course) (m : ℕ → List File) → ((rows : List Row) → Once (next rows (rest m))) → Once (Opens limit name next m)
opens_once limit name next m once o p (inl a) b = no_load a
opens_once limit name next m once o p (inr a) (inl b) = no_load b
opens_once limit name next m once o p (inr a) (inr b) = found_once limit name (λ rows. next rows (rest m)) (held (m 0) name) once o p a b

-- what files of a format may be read as: one value at most, one first fault at most, and not both
record HaveOneReading {S V : Type 0} (format : Format S V) (rows : List Row) : Type 0 where
  values : (v w : V) → IsAccepted format rows v → IsAccepted format rows w → v ≡ w
  faults : (fault other : FileFault) → IsFirstFault format rows fault → IsFirstFault format rows other → fault ≡ other
  either : (v : V) (fault : FileFault) → IsAccepted format rows v → IsFirstFault format rows fault → ⊥

views_once : (rows : List Row) → HaveOneReading view_format rows
views_once rows = record { values = views_are_unique rows; faults = view_faults_are_unique rows; either = views_have_no_fault rows }

maps_once : (rows : List Row) → HaveOneReading map_format rows
maps_once rows = record { values = maps_are_unique rows; faults = map_faults_are_unique rows; either = maps_have_no_fault rows }

tables_once : (signature : Signature) (rows : List Row) → HaveOneReading (formula_format signature) rows
tables_once signature rows = record { values = tables_are_unique signature rows; faults = formula_faults_are_unique signature rows; either = formulas_have_no_fault signature rows }

reads_once : {S V : Type 0} (format : Format S V) (name : List ℕ) (next : V → Course) (rows : List Row) (m : ℕ → List File) → HaveOneReading format rows → ((v : V) → Once (next v m)) → Once (Reads format name next rows m)
reads_once format name next rows m one once o p (faulty f first a) (faulty g also b) = both_end a (b ∙ ap (λ (h : FileFault). Ends (Refusal (fault_line name h))) (one.faults g f also first))
reads_once format name next rows m one once o p (faulty f first a) (accepted v is b) = absurd (one.either v f is first)
reads_once format name next rows m one once o p (accepted v is a) (faulty f first b) = absurd (one.either v f is first)
reads_once {V = V} format name next rows m one once o p (accepted v is a) (accepted w are b) = once w o p (subst (λ (u : V). next u m (Ends o)) (one.values v w is are) a) b

comes_once : (name : List ℕ) (next : Verdict → Course) (verdict : Verdict) (m : ℕ → List File) → ((v : Verdict) → Once (next v m)) → Once (ComesOf name next verdict m)
comes_once name next (Faulty fault) m once o p a b = both_end a b
comes_once name next (Unlawful law names) m once o p a b = once (Unlawful law names) o p a b
comes_once name next (Lawful l) m once o p a b = once (Lawful l) o p a b

judges_once : (name : List ℕ) (next : Verdict → Course) (rows : List Row) (m : ℕ → List File) → ((v : Verdict) → Once (next v m)) → Once (Judges name next rows m)
judges_once name next rows m once o p a b =
    comes_once name next b.verdict m once o p (subst (λ (v : Verdict). ComesOf name next v m (Ends o)) (verdicts_are_unique rows a.verdict b.verdict a.judged b.judged) a.comes) b.comes

kind_once : (kind : FileKind) (name : List ℕ) (next : Found kind → Course) (rows : List Row) (m : ℕ → List File) → ((x : Found kind) → Once (next x m)) → Once (ReadsKind kind name next rows m)
kind_once Lattices name next rows m once o p a b = judges_once name next rows m once o p a b
kind_once Views name next rows m once o p a b = reads_once view_format name next rows m (views_once rows) once o p a b
kind_once Maps name next rows m once o p a b = reads_once map_format name next rows m (maps_once rows) once o p a b
kind_once (Formulas signature) name next rows m once o p a b = reads_once (formula_format signature) name next rows m (tables_once signature rows) once o p a b

-- so has each tree
pub tree_once : (tree : Tree) (m : ℕ → List File) → Once (Happens tree m)
tree_once (Open kind name next) m o p a b =
    opens_once (limit_of kind) name (ReadsKind kind name (λ found. Happens (next found))) m
    (λ rows. kind_once kind name (λ found. Happens (next found)) rows (rest m) (λ found. tree_once (next found) (rest m))) o p a b
tree_once (Over files tree) m o p a b = tree_once tree (always files) o p a b
tree_once (Refuse line) m o p a b = both_end a b
tree_once (Serve status items) m o p a b = both_end a b

pub courses_end_once : CoursesEndOnce
courses_end_once tree moments outcome other a b = tree_once tree moments outcome other a b
