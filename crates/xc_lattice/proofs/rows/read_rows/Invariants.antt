use Rattle.std.proofs.Common.{◌≡◌, [], drop}
use Rattle.xc_base.specs.Lines.{rows_in}
use Rattle.xc_base.specs.Deciding.{statements_of}
use Rattle.xc_lattice.specs.LatticeFiles.{lattice_format}
use Rattle.xc_lattice.specs.Deciding.{decide}
use Rattle.xc_lattice.proofs.rows.read_rows.Given as goal

abbrev pub invariant-loop-row : goal.invariant-loop-row
invariant-loop-row l =
    statements_of lattice_format decide l.statements (drop l.row (rows_in l.lines)) ≡ statements_of lattice_format decide [] (rows_in l.lines)
