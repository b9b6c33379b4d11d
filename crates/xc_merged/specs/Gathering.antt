-- What is worked out of a map and its viewpoints, as the code comes to it. No public clause rests on these words.
use Rattle.std.specs.Prelude.{◌≡◌, ◌<◌, ℕ, List, length}
use Rattle.std.specs.List.{slice_index_or}
use Rattle.xc_theory.specs.Lattices.{LatticeData}
use Rattle.xc_alg.specs.AnyTables.{lattice_in_any}
use Rattle.xc_lattice.specs.Values.{value_of as lattice_of}
use Rattle.xc_lattice.specs.declared.lattice.Lattice.{Lattice}
use Rattle.xc_view.specs.declared.view.View.{View}
use Rattle.xc_sigmap.specs.Maps.{value_of as map_of}
use Rattle.xc_sigmap.specs.declared.sigmap.SigMap.{SigMap}
use Rattle.xc_merge.specs.Merging.{viewpoint_of}
use Rattle.xc_merged.specs.Tabled.{AreTables}
use Rattle.xc_merged.specs.declared.tables.Tables.{Tables}

-- tables of the first viewpoints
pub record AreTabled (sigmap : SigMap) (views : List (View × Lattice)) (some : ℕ) (tables : List Tables) : Type 0 where
  pub count : length tables ≡ some
  pub tabled : (v : ℕ) (pair : View × Lattice) (t : Tables) → v < some → pair ≡ slice_index_or views v pair → t ≡ slice_index_or tables v t → AreTables (map_of sigmap) v (viewpoint_of pair) t

-- the lattice of some operations, and the names of a lattice's elements
abbrev pub operations : Tables → LatticeData
operations t = lattice_in_any t.operations

abbrev pub names_in : View × Lattice → List (List ℕ)
names_in pair = (lattice_of pair.1).names
