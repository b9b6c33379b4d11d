-- The courses of the modes that look at one file: to judge a lattice, and to show a lattice, a viewpoint or a map.
use Rattle.std.specs.Prelude.{ℕ, List, [], ◌∷◌}
use Rattle.xc_base.specs.Canonical.{canonical}
use Rattle.xc_lattice.specs.LatticeFiles.{Verdict, Faulty, Unlawful, Lawful}
use Rattle.xc_lattice.specs.Printed.{lattice_lines}
use Rattle.xc_view.specs.Printing.{view_lines}
use Rattle.xc_sigmap_text.specs.Printing.{map_lines}
use Rattle.xc_words.specs.declared.asked.ShowKind.{ShowKind}
use Rattle.xc_words.specs.declared.asked.ShowKind.TheVariants as kinds
use Rattle.xc_lines.specs.Texts.{fault_line, broken_text}
use Rattle.xc_lines.specs.declared.status.Status.TheVariants.{Done, No}
use Rattle.xc_course.specs.FileKinds.{Lattices, Views, Maps}
use Rattle.xc_course.specs.Items.{Fixed, Described}
use Rattle.xc_course.specs.Trees.{Tree, Open, OpenLattice, Refuse, Serve}

-- what is said of a lattice file: it is described, or the answer is no, with the first law that it breaks
abbrev pub Verdicts : List ℕ → Verdict → Tree
Verdicts name (Faulty fault) = Refuse (fault_line name fault)
Verdicts name (Unlawful law names) = Serve No (Fixed (broken_text law names) ∷ [])
Verdicts name (Lawful l) = Serve Done (Described l ∷ [])

-- `lattice FILE`: a lattice file is opened and judged
abbrev pub LatticeTree : List ℕ → Tree
LatticeTree name = Open Lattices name (Verdicts name)

-- the canonical text of these lines is for out
abbrev pub Shows : List (List (List ℕ)) → Tree
Shows lines = Serve Done (Fixed (canonical lines) ∷ [])

-- `show KIND FILE`: a file of the kind is opened, and its canonical text is for out; no other file is loaded
abbrev pub ShowTree : ShowKind → List ℕ → Tree
ShowTree kinds.Lattice name = OpenLattice name (λ l. Shows (lattice_lines l))
ShowTree kinds.View name = Open Views name (λ v. Shows (view_lines v))
ShowTree kinds.Map name = Open Maps name (λ plan. Shows (map_lines plan))
