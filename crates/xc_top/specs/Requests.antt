-- The list of courses: which one each request has.
use Rattle.std.specs.Prelude.{ℕ, List, MatchOption}
use Rattle.xc_base.specs.declared.shelf.File.{File}
use Rattle.xc_words.specs.Requests.{request_of}
use Rattle.xc_words.specs.declared.asked.Request.{Request}
use Rattle.xc_words.specs.declared.asked.Request.TheVariants.{Lattice, Check, Show, Gen}
use Rattle.xc_course.specs.Courses.{Ends, Outcome, always}
use Rattle.xc_course.specs.Trees.{Tree, Happens}
use Rattle.xc_show.specs.Showing.{LatticeTree, ShowTree}
use Rattle.xc_eval.specs.Checking.{CheckTree, GenTree}

-- the course of a request; no words ask for a flag of a check yet
abbrev pub course_of : Request → Tree
course_of (Lattice name) = LatticeTree name
course_of (Check sigmap formulas witness plain size) = CheckTree sigmap formulas
course_of (Show kind name) = ShowTree kind name
course_of (Gen number size) = GenTree number size

-- where each load finds what it does, the words have that outcome; words that are no request have none
abbrev pub ComesOfWords : List (List ℕ) → (ℕ → List File) → Outcome → Type 0
ComesOfWords words moments outcome = MatchOption (request_of words) ⊥ (λ request. Happens (course_of request) moments (Ends outcome))

-- the outcome of words over files
abbrev pub IsOutcome : List (List ℕ) → List File → Outcome → Type 0
IsOutcome words files outcome = ComesOfWords words (always files) outcome
