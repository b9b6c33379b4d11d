-- Courses of requests at small cases whose outcomes are known from outside: a wrong definition does not check here.
use Rattle.std.specs.Fmt.{digits}
use Rattle.std.proofs.Common.{ℕ, List, [], ◌∷◌, ◌++◌, codes, refl}
use Rattle.xc_theory.proofs.Facts.{chain}
use Rattle.xc_expr.specs.Tests as tests
use Rattle.xc_base.specs.Canonical.{canonical, spaced}
use Rattle.xc_base.specs.Formats.{Row, IsAccepted}
use Rattle.xc_base.specs.declared.shelf.File.{File}
use Rattle.xc_lattice.specs.LatticeFiles.{LatticeValue, Unlawful, Lawful, IsVerdict}
use Rattle.xc_laws.specs.declared.law.Law.TheVariants.{Distributive}
use Rattle.xc_view.specs.ViewFiles.{ViewValue, view_format}
use Rattle.xc_sigmap_lines.specs.MapFiles.{MapValue, map_format}
use Rattle.xc_lattice.specs.Printed.{lattice_lines}
use Rattle.xc_view.specs.Printing.{view_lines}
use Rattle.xc_sigmap_text.specs.Printing.{map_lines}
use Rattle.xc_words.specs.declared.asked.Request.TheVariants.{Gen}
use Rattle.xc_lines.specs.Texts.{broken_line}
use Rattle.xc_lines.specs.declared.status.Status.TheVariants.{Done, No}
use Rattle.xc_course.specs.Courses.{Ends, Refusal, Served}
use Rattle.xc_course.specs.Courses.Reads.{accepted}
use Rattle.xc_course.specs.FileKinds.{Lattices, Views, Maps, ReadsKind}
use Rattle.xc_course.specs.Items.{Fixed, Described}
use Rattle.xc_course.specs.Trees.{Happens, OnLawful}
use Rattle.xc_show.specs.Showing.{Shows, Verdicts}
use Rattle.xc_top.specs.Requests.{course_of}

abbrev lines : List ℕ → List ℕ
lines text = text ++ 10 ∷ []

abbrev of_chain : LatticeValue
of_chain = record { name = codes "chain"; names = codes "F" ∷ codes "M" ∷ codes "T" ∷ []; algebra = chain }

-- a view of one variable, and a map of two viewpoints that look at it alike
abbrev seen : ViewValue
seen = record { name = codes "seen"; lattice = codes "x.lat"; vars = record { name = codes "x"; values = codes "0" ∷ codes "1" ∷ [] } ∷ []; init = tests.Is 0 0; props = []; commands = [] }

abbrev pair : MapValue
pair =
    record {
      name = codes "pair";
      uses = record { name = codes "ann"; file = codes "a.view" } ∷ record { name = codes "ben"; file = codes "b.view" } ∷ [];
      vars = record { name = codes "x"; values = codes "0" ∷ codes "1" ∷ [] } ∷ [];
      props = codes "p" ∷ [];
      sends = record { viewpoint = 0; variable = codes "x"; from = 0; pairs = [] } ∷ record { viewpoint = 1; variable = codes "x"; from = 0; pairs = [] } ∷ [];
      tells = [];
      stutters = [];
    }

-- what is shown of files that say the lattice of three elements, the view and the map
abbrev chain_shown : List ℕ
chain_shown =
    lines (codes "lattice chain") ++ lines (codes "elements F M T") ++ lines (codes "below F M") ++ lines (codes "below F T") ++ lines (codes "below M T")
    ++ lines (codes "not F T") ++ lines (codes "not M M") ++ lines (codes "not T F")

abbrev seen_shown : List ℕ
seen_shown = lines (codes "view seen") ++ lines (codes "lattice x.lat") ++ lines (codes "var x 0 1") ++ lines (codes "init x=0")

abbrev pair_shown : List ℕ
pair_shown =
    lines (codes "map pair") ++ lines (codes "use ann a.view") ++ lines (codes "use ben b.view") ++ lines (codes "var x 0 1") ++ lines (codes "prop p") ++ lines (codes "send ann x x")
    ++ lines (codes "send ben x x")

module _ (name : List ℕ) (rows : List Row) (moments : ℕ → List File) where
  pub lattice_shown : IsVerdict rows (Lawful of_chain) → ReadsKind Lattices name (λ v. Happens (OnLawful name (λ l. Shows (lattice_lines l)) v)) rows moments (Ends (Served Done (Fixed chain_shown ∷ [])))
  unfolding canonical spaced
  lattice_shown is = record { verdict = Lawful of_chain; judged = is; comes = refl }

  -- a lattice that breaks a law is refused, and not shown
  pub broken_not_shown : IsVerdict rows (Unlawful Distributive (codes "a" ∷ codes "b" ∷ codes "c" ∷ [])) → ReadsKind Lattices name (λ v. Happens (OnLawful name (λ l. Shows (lattice_lines l)) v)) rows moments (Ends (Refusal (broken_line name Distributive (codes "a" ∷ codes "b" ∷ codes "c" ∷ []))))
  broken_not_shown is = record { verdict = Unlawful Distributive (codes "a" ∷ codes "b" ∷ codes "c" ∷ []); judged = is; comes = refl }

  -- where it is to be judged, the answer is no
  pub broken_judged : IsVerdict rows (Unlawful Distributive (codes "a" ∷ codes "b" ∷ codes "c" ∷ [])) → ReadsKind Lattices name (λ v. Happens (Verdicts name v)) rows moments (Ends (Served No (Fixed (lines (codes "broken distributive a b c")) ∷ [])))
  broken_judged is = record { verdict = Unlawful Distributive (codes "a" ∷ codes "b" ∷ codes "c" ∷ []); judged = is; comes = refl }

  pub lawful_judged : IsVerdict rows (Lawful of_chain) → ReadsKind Lattices name (λ v. Happens (Verdicts name v)) rows moments (Ends (Served Done (Described of_chain ∷ [])))
  lawful_judged is = record { verdict = Lawful of_chain; judged = is; comes = refl }

  pub view_shown : IsAccepted view_format rows seen → ReadsKind Views name (λ v. Happens (Shows (view_lines v))) rows moments (Ends (Served Done (Fixed seen_shown ∷ [])))
  unfolding canonical spaced
  view_shown is = accepted seen is refl

  pub map_shown : IsAccepted map_format rows pair → ReadsKind Maps name (λ v. Happens (Shows (map_lines v))) rows moments (Ends (Served Done (Fixed pair_shown ∷ [])))
  unfolding canonical spaced
  map_shown is = accepted pair is refl

-- a size of which no files are generated
pub no_such_size : (moments : ℕ → List File) → Happens (course_of (Gen 7 21)) moments (Ends (Refusal (lines (codes "refused size 21"))))
unfolding digits
no_such_size moments = refl
