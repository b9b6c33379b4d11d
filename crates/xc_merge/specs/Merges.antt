-- What is merged: a map, and for each viewpoint that it names a view with the lattice of its values.
use Rattle.std.specs.Prelude.{ℕ, List, [], map, length}
use Rattle.std.specs.List.{slice_index_or, range_with_len}
use Rattle.xc_theory.specs.Lattices.{LatticeData}
use Rattle.xc_lattice.specs.LatticeFiles.{LatticeValue}
use Rattle.xc_expr.specs.Tests as tests
use Rattle.xc_view.specs.ViewFiles.{ViewValue}
use Rattle.xc_sigmap_lines.specs.MapFiles.{MapValue, use_names}
use Rattle.xc_base.specs.Names.{name_at}

-- a viewpoint: its view, and the lattice that the view's values are of
pub record Viewpoint : Type 0 where
  pub view : ViewValue
  pub lattice : LatticeValue

-- the map, and the viewpoints in the order in which it names them
pub record Merge : Type 0 where
  pub plan : MapValue
  pub viewpoints : List Viewpoint

-- what stands for the numbers past the viewpoints, and says nothing
abbrev pub nobody : Viewpoint
nobody =
    record {
      view = record { name = []; lattice = []; vars = []; init = tests.True; props = []; commands = [] };
      lattice = record { name = []; names = []; algebra = record { order = []; negations = [] } };
    }

abbrev pub viewpoint_at : Merge → ℕ → Viewpoint
viewpoint_at m v = slice_index_or m.viewpoints v nobody

-- the name that a map has for its viewpoint v
abbrev pub name_of : MapValue → ℕ → List ℕ
name_of plan v = name_at (use_names plan.uses) v

-- what a function of a viewpoint and its number gives for each viewpoint, in order
abbrev pub for_each : {X : Type 0} → Merge → (ℕ → Viewpoint → X) → List X
for_each m f = map (λ v. f v (viewpoint_at m v)) (range_with_len 0 (length m.viewpoints))

-- the lattices of the viewpoints: the parts of the product that the merged machine's values are of
abbrev pub parts_of : Merge → List LatticeData
parts_of m = map (λ (p : Viewpoint). p.lattice.algebra) m.viewpoints

-- the names of the elements of each part
abbrev pub names_of_parts : Merge → List (List (List ℕ))
names_of_parts m = map (λ (p : Viewpoint). p.lattice.names) m.viewpoints
