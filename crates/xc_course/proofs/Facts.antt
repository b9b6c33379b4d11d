-- Courses and items at small cases whose outcomes are known from outside: a wrong definition does not check here.
use Rattle.std.proofs.Common.{◌≡◌, ℕ, List, [], ◌∷◌, codes, Some, None, refl, inl, inr}
use Rattle.xc_theory.proofs.Facts.{two, chain}
use Rattle.xc_expr.specs.Tests as tests
use Rattle.xc_base.specs.declared.shelf.File.{File}
use Rattle.xc_lattice.specs.LatticeFiles.{LatticeValue}
use Rattle.xc_view.specs.ViewFiles.{ViewValue}
use Rattle.xc_merge.specs.Merges.{Merge}
use Rattle.xc_lines.specs.Texts.{states_line}
use Rattle.xc_course.specs.Courses.{Ends, Loading, Absent, Refusal, always}
use Rattle.xc_course.specs.FileKinds.{Views}
use Rattle.xc_course.specs.Items.{Fixed, IsReply, IsPart}
use Rattle.xc_course.specs.Items.IsReply.{none, more}
use Rattle.xc_course.specs.Items.IsPart.{nothing, part, whole}
use Rattle.xc_course.specs.Trees.{Tree, Open, Over, Happens, Unless, states_refusal, files_of}

abbrev of_two : LatticeValue
of_two = record { name = codes "two"; names = codes "F" ∷ codes "T" ∷ []; algebra = two }

abbrev of_chain : LatticeValue
of_chain = record { name = codes "chain"; names = codes "F" ∷ codes "M" ∷ codes "T" ∷ []; algebra = chain }

-- a view of one variable, and a map of two viewpoints that look at it alike, over two elements and over three
abbrev seen : ViewValue
seen = record { name = codes "seen"; lattice = codes "x.lat"; vars = record { name = codes "x"; values = codes "0" ∷ codes "1" ∷ [] } ∷ []; init = tests.Is 0 0; props = []; commands = [] }

abbrev pair : Merge
pair =
    record {
      plan = record {
        name = codes "pair";
        uses = record { name = codes "ann"; file = codes "a.view" } ∷ record { name = codes "ben"; file = codes "b.view" } ∷ [];
        vars = record { name = codes "x"; values = codes "0" ∷ codes "1" ∷ [] } ∷ [];
        props = codes "p" ∷ [];
        sends = record { viewpoint = 0; variable = codes "x"; from = 0; pairs = [] } ∷ record { viewpoint = 1; variable = codes "x"; from = 0; pairs = [] } ∷ [];
        tells = [];
        stutters = [];
      };
      viewpoints = record { view = seen; lattice = of_two } ∷ record { view = seen; lattice = of_chain } ∷ [];
    }

-- the files of its viewpoints
pub files_of_pair : files_of pair.plan ≡ codes "a.view" ∷ codes "b.view" ∷ []
files_of_pair = refl

-- it has two states: one is too few of a limit, and two are not
pub states_of_pair : (states_refusal 1 pair ≡ Some (states_line 2)) × (states_refusal 2 pair ≡ None)
states_of_pair = (refl, refl)

-- a load of a file that is not held is reached, and is the outcome; over other files nothing is loaded
module _ (next : ViewValue → Tree) (moments : ℕ → List File) where
  pub none_held : Happens (Open Views (codes "a.view") next) (always []) (Loading (codes "a.view")) × Happens (Open Views (codes "a.view") next) (always []) (Ends (Absent (codes "a.view")))
  none_held = (inl refl, inr refl)

  pub over_none : Happens (Over [] (Open Views (codes "a.view") next)) moments (Ends (Absent (codes "a.view")))
  over_none = inr refl

-- a line is refused before anything else happens
pub refused_first : (tree : Tree) (moments : ℕ → List File) → Happens (Unless (Some (codes "no")) tree) moments (Ends (Refusal (codes "no")))
refused_first tree moments = refl

-- two items: all of them, the first alone, and a part of the second
pub items_told : IsReply (Fixed (codes "ab") ∷ Fixed (codes "cd") ∷ []) (codes "abcd") × IsPart (Fixed (codes "ab") ∷ Fixed (codes "cd") ∷ []) (codes "ab") × IsPart (Fixed (codes "ab") ∷ Fixed (codes "cd") ∷ []) (codes "abc") × IsPart (Fixed (codes "ab") ∷ []) []
items_told = (
  more (codes "ab") (codes "cd") refl (more (codes "cd") [] refl none),
  whole (codes "ab") [] refl nothing,
  whole (codes "ab") (codes "c") refl (part (codes "cd") refl (record { next = 100; rest = []; is = refl })),
  nothing,
)
