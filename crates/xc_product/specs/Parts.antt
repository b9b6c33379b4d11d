-- The parts of a product, as the lattices that tables tell, and what a product keeps of them.
use Rattle.std.specs.Prelude.{◌≡◌, ◌+◌, ◌<◌, ◌≤◌, ℕ, List, length, map, drop, slice_index}
use Rattle.xc_theory.specs.Lattices.{LatticeData}
use Rattle.xc_alg.specs.Products.{product}
use Rattle.xc_alg.specs.AnyTables.{lattice_in_any, room_of}
use Rattle.xc_alg.specs.declared.any_table.AnyTable.{AnyTable}

-- the lattices of some tables, in order
abbrev pub lattices : List AnyTable → List LatticeData
lattices tables = map lattice_in_any tables

-- for how many elements each table has room
abbrev pub rooms : List AnyTable → List ℕ
rooms tables = map room_of tables

-- What a product keeps: public clauses do not rest on these words.
-- how many codes the parts after a part have
abbrev pub weight : List AnyTable → ℕ → ℕ
weight tables part = (product (lattices (drop (part + 1) tables))).size

-- One part to eight with at most 4,096 codes, the weight of each, and the numbers of their product.
pub record HoldsProduct (tables : List AnyTable) (weights : List ℕ) (size bottom top : ℕ) : Type 0 where
  pub several : 1 ≤ length tables
  pub few : length tables ≤ 8
  pub weighted : (k : ℕ) → k < length tables → slice_index weights k ≡ weight tables k
  pub sized : size ≡ (product (lattices tables)).size
  pub limited : (product (lattices tables)).size ≤ 4096
  pub bottom_is : bottom ≡ (product (lattices tables)).bottom
  pub top_is : top ≡ (product (lattices tables)).top
