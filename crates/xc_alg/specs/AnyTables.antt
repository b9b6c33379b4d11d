-- What a table of one of the three sizes stands for.
use Rattle.std.specs.Prelude.{ℕ}
use Rattle.xc_theory.specs.Lattices.{LatticeData}
use Rattle.xc_alg.specs.OpTables.{lattice_of}
use Rattle.xc_alg.specs.declared.any_table.AnyTable.{AnyTable}
use Rattle.xc_alg.specs.declared.any_table.AnyTable.TheVariants.{T4, T16, T64}

-- the lattice of its table
abbrev pub lattice_in_any : AnyTable → LatticeData
lattice_in_any (T4 table) = lattice_of table
lattice_in_any (T16 table) = lattice_of table
lattice_in_any (T64 table) = lattice_of table.value

-- for how many elements it has room
abbrev pub room_of : AnyTable → ℕ
room_of (T4 table) = 4
room_of (T16 table) = 16
room_of (T64 table) = 64
