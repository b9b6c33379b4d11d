-- What maps, views and lattices of the code merge to.
use Rattle.std.specs.Prelude.{List, map}
use Rattle.xc_lattice.specs.Values.{value_of as lattice_of}
use Rattle.xc_lattice.specs.declared.lattice.Lattice.{Lattice}
use Rattle.xc_view.specs.Views.{value_of as view_of}
use Rattle.xc_view.specs.declared.view.View.{View}
use Rattle.xc_sigmap.specs.Maps.{value_of as map_of}
use Rattle.xc_sigmap.specs.declared.sigmap.SigMap.{SigMap}
use Rattle.xc_merge.specs.Merges.{Merge, Viewpoint}

abbrev pub viewpoint_of : View × Lattice → Viewpoint
viewpoint_of pair = record { view = view_of pair.0; lattice = lattice_of pair.1 }

-- a map, and a view with its lattice for each of the map's viewpoints
abbrev pub merge_in : SigMap → List (View × Lattice) → Merge
merge_in sigmap views = record { plan = map_of sigmap; viewpoints = map viewpoint_of views }
