-- What the files that are generated name of each other.
use Rattle.std.specs.Prelude.{◌≡◌, ℕ, List, [], ◌∷◌, codes}
use Rattle.xc_base.specs.Formats.{IsAccepted}
use Rattle.xc_base.specs.Lines.{text_rows}
use Rattle.xc_sigmap_lines.specs.declared.parts.Use.{Use}
use Rattle.xc_sigmap_lines.specs.MapFiles.{MapValue, map_format}
use Rattle.xc_view.specs.ViewFiles.{ViewValue, view_format}
use Rattle.xc_gen.specs.declared.side.Side.{Side}
use Rattle.xc_gen.specs.declared.side.Side.TheVariants.{Left, Right}
use Rattle.xc_gen.specs.Generated.{name_of, lattice_of, view_text, map_text}

-- the file of a viewpoint
abbrev pub view_file : Side → List ℕ
view_file Left = codes "left.view"
view_file Right = codes "right.view"

-- a viewpoint as a map uses it
abbrev pub use_of : Side → Use
use_of side = record { name = name_of side; file = view_file side }

-- whatever the generated map is read as, it uses the two views that are generated
abbrev pub UsesBothViews : ℕ → Type 0
UsesBothViews size = (plan : MapValue) → IsAccepted map_format (text_rows (map_text size)) plan → plan.uses ≡ use_of Left ∷ use_of Right ∷ []

-- whatever a generated view is read as, it names the lattice of its side
abbrev pub NamesItsLattice : Side → ℕ → ℕ → Type 0
NamesItsLattice side number size = (v : ViewValue) → IsAccepted view_format (text_rows (view_text side number size)) v → v.lattice ≡ lattice_of side
