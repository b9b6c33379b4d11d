-- What an operation table stands for.
use Rattle.std.specs.Prelude.{ℕ}
use Rattle.xc_theory.specs.Lattices.{LatticeData}
use Rattle.xc_alg.specs.Tables.{lattice_in}
use Rattle.xc_alg.specs.declared.op_table.OpTable.{OpTable}

-- the lattice whose operations the table has
abbrev pub lattice_of : {N : ℕ} → OpTable N → LatticeData
lattice_of table = lattice_in table.n table.meet table.neg
