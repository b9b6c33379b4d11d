-- The kinds of files that a course opens: what is found in one, how many bytes it may have, and how it is read.
use Rattle.std.specs.Prelude.{◌≡◌, ℕ, List}
use Rattle.xc_base.specs.Formats.{Row}
use Rattle.xc_base.specs.declared.shelf.File.{File}
use Rattle.xc_lattice.specs.LatticeFiles.{Verdict, Faulty, Unlawful, Lawful, IsVerdict}
use Rattle.xc_view.specs.ViewFiles.{ViewValue, view_format}
use Rattle.xc_sigmap_lines.specs.MapFiles.{MapValue, map_format}
use Rattle.xc_formula_text.specs.FormulaFiles.{formula_format}
use Rattle.xc_ctl.specs.Trees.{Signature}
use Rattle.xc_ctl.specs.declared.kind.Kind.{Kind}
use Rattle.xc_lines.specs.Texts.{fault_line}
use Rattle.xc_course.specs.Courses.{Course, Event, Ends, Refusal, Reads}

-- a lattice, with the verdict on it where the file has no fault, a viewpoint, a map, or formulas over given propositions and elements
pub data FileKind : Type 0 where
  Lattices : FileKind
  Views : FileKind
  Maps : FileKind
  Formulas : Signature → FileKind

-- what is found in a file of a kind
abbrev pub Found : FileKind → Type 0
Found Lattices = Verdict
Found Views = ViewValue
Found Maps = MapValue
Found (Formulas signature) = List (List Kind)

-- how many bytes a file of a kind may have
abbrev pub limit_of : FileKind → ℕ
limit_of Lattices = 1048576
limit_of Views = 1048576
limit_of Maps = 1048576
limit_of (Formulas signature) = 1048576

-- what comes of the verdict on a lattice file: a fault is refused, and else the work goes on
abbrev pub ComesOf : List ℕ → (Verdict → Course) → Verdict → Course
ComesOf name next (Faulty fault) moments event = event ≡ Ends (Refusal (fault_line name fault))
ComesOf name next (Unlawful law names) moments event = next (Unlawful law names) moments event
ComesOf name next (Lawful l) moments event = next (Lawful l) moments event

-- the reading and the judging of a lattice file's rows
pub record Judges (name : List ℕ) (next : Verdict → Course) (rows : List Row) (moments : ℕ → List File) (event : Event) : Type 0 where
  pub verdict : Verdict
  pub judged : IsVerdict rows verdict
  pub comes : ComesOf name next verdict moments event

-- the reading of the rows of a file of a kind
abbrev pub ReadsKind : (kind : FileKind) → List ℕ → (Found kind → Course) → List Row → Course
ReadsKind Lattices name next = Judges name next
ReadsKind Views name next = Reads view_format name next
ReadsKind Maps name next = Reads map_format name next
ReadsKind (Formulas signature) name next = Reads (formula_format signature) name next
