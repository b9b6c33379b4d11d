-- A course by its stages, as plain data, and what may happen in it.
use Rattle.std.specs.Prelude.{◌≡◌, ℕ, nat_lt, if◌then◌else◌, List, [], ◌∷◌, ◌++◌, map, Option, Some, None, option_map}
use Rattle.xc_base.specs.declared.shelf.File.{File}
use Rattle.xc_lattice.specs.LatticeFiles.{LatticeValue, Verdict, Faulty, Unlawful, Lawful}
use Rattle.xc_sigmap_lines.specs.MapFiles.{MapValue}
use Rattle.xc_sigmap_lines.specs.declared.parts.Use.{Use}
use Rattle.xc_merge.specs.Merges.{Merge, Viewpoint}
use Rattle.xc_merge.specs.Faults.{merge_fault}
use Rattle.xc_merge.specs.Projections.{states_of}
use Rattle.xc_lines.specs.Texts.{fault_line, broken_line, merge_line, states_line}
use Rattle.xc_lines.specs.declared.status.Status.{Status}
use Rattle.xc_course.specs.Items.{Item}
use Rattle.xc_course.specs.Courses.{Course, Event, Ends, Loading, Outcome, Refusal, Served, always, Opens}
use Rattle.xc_course.specs.FileKinds.{FileKind, Lattices, Views, Found, ReadsKind, limit_of}

-- A stage has what comes behind it, which depends on what the stage finds. As a tree is plain data, a clause can speak of whatever
-- comes behind a stage; of each function from what is found to a course it could not.
pub data Tree : Type 0 where
  -- a file of a kind is opened
  Open : (kind : FileKind) → List ℕ → (Found kind → Tree) → Tree
  -- the work goes on over these files, in place of those of the shelf
  Over : List File → Tree → Tree
  -- the request is refused with that line
  Refuse : List ℕ → Tree
  -- the request is served
  Serve : Status → List Item → Tree

-- the course ends, with an outcome of which P holds
abbrev pub Ending : (Outcome → Type 0) → Event → Type 0
Ending P (Ends outcome) = P outcome
Ending P (Loading name) = ⊥

-- what may happen in a tree
abbrev pub Happens : Tree → Course
Happens (Open kind name next) moments event = Opens (limit_of kind) name (ReadsKind kind name (λ found. Happens (next found))) moments event
Happens (Over files tree) moments event = Ending (λ outcome. Happens tree (always files) (Ends outcome)) event
Happens (Refuse line) moments event = event ≡ Ends (Refusal line)
Happens (Serve status items) moments event = event ≡ Ends (Served status items)

-- where there is a line the request is refused with it, and else the work goes on
abbrev pub Unless : Option (List ℕ) → Tree → Tree
Unless None next = next
Unless (Some line) next = Refuse line

-- the merge of a map and viewpoints: its first fault is refused, and else the work goes on with what is merged
abbrev pub Merges : MapValue → List Viewpoint → (Merge → Tree) → Tree
Merges plan found next = Unless (option_map merge_line (merge_fault (record { plan = plan; viewpoints = found }))) (next (record { plan = plan; viewpoints = found }))

-- the line for too many states, where there are more than that many
abbrev pub states_refusal : ℕ → Merge → Option (List ℕ)
states_refusal most m = if nat_lt most (states_of m.plan) then Some (states_line (states_of m.plan)) else None

-- the work goes on where there are at most that many states
abbrev pub Within : ℕ → Merge → (Unit {0} → Tree) → Tree
Within most m next = Unless (states_refusal most m) (next tt)

-- the work goes on with a lattice that breaks no law, and another file is refused
abbrev pub OnLawful : List ℕ → (LatticeValue → Tree) → Verdict → Tree
OnLawful name next (Faulty fault) = Refuse (fault_line name fault)
OnLawful name next (Unlawful law names) = Refuse (broken_line name law names)
OnLawful name next (Lawful l) = next l

-- a lattice file, where the request is not to judge it
abbrev pub OpenLattice : List ℕ → (LatticeValue → Tree) → Tree
OpenLattice name next = Open Lattices name (OnLawful name next)

-- a viewpoint: the file of its view, and then the file of the lattice that the view names
abbrev pub OpenViewpoint : List ℕ → (Viewpoint → Tree) → Tree
OpenViewpoint file next = Open Views file (λ v. OpenLattice v.lattice (λ l. next (record { view = v; lattice = l })))

-- the viewpoints of some files, one after another, behind those that were found
abbrev pub OpenViewpoints : List (List ℕ) → List Viewpoint → (List Viewpoint → Tree) → Tree
OpenViewpoints [] found next = next found
OpenViewpoints (file ∷ files) found next = OpenViewpoint file (λ p. OpenViewpoints files (found ++ p ∷ []) next)

-- the files of the viewpoints that a map uses
abbrev pub files_of : MapValue → List (List ℕ)
files_of plan = map (λ (u : Use). u.file) plan.uses
