-- Laws of courses, as statements that public functions carry.
use Rattle.std.specs.Prelude.{◌≡◌, ℕ, List}
use Rattle.xc_base.specs.declared.shelf.File.{File}
use Rattle.xc_course.specs.Courses.{Ends, Outcome}
use Rattle.xc_course.specs.Trees.{Tree, Happens}

-- each course has an end, whatever the loads find
abbrev pub CoursesEnd : Type 0
CoursesEnd = (tree : Tree) (moments : ℕ → List File) → (outcome : Outcome) × Happens tree moments (Ends outcome)

-- and no two
abbrev pub CoursesEndOnce : Type 0
CoursesEndOnce = (tree : Tree) (moments : ℕ → List File) (outcome other : Outcome) → Happens tree moments (Ends outcome) → Happens tree moments (Ends other) → outcome ≡ other
