use Rattle.std.proofs.Common.{◌≡◌, ◌++◌, map}
use Rattle.std.specs.List.{range_with_len}
use Rattle.xc_base.specs.Canonical.{canonical}
use Rattle.xc_lattice.specs.LatticeFiles.{spelling}
use Rattle.xc_lattice.specs.Printed.{not_statements}
use Rattle.xc_lattice.specs.Values.{value_of}
use Rattle.xc_lattice.proofs.lattice.Lattice.push_negations.Given as goal

abbrev pub invariant-loop-a : goal.invariant-loop-a
invariant-loop-a l = l.text ≡ l.fn.text ++ canonical (map spelling (not_statements (value_of l.self) (range_with_len 0 l.a)))
