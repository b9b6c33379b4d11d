use Rattle.std.proofs.Common.{◌≡◌, ◌++◌, map}
use Rattle.std.specs.List.{range_with_len}
use Rattle.xc_base.specs.Canonical.{canonical}
use Rattle.xc_lattice.specs.LatticeFiles.{spelling}
use Rattle.xc_lattice.specs.Printed.{below_statements}
use Rattle.xc_lattice.specs.Values.{value_of}
use Rattle.xc_lattice.proofs.lattice.Lattice.push_below.Given as goal

abbrev pub invariant-loop-b : goal.invariant-loop-b
invariant-loop-b l = l.text ≡ l.fn.text ++ canonical (map spelling (below_statements (value_of l.self) l.a (range_with_len 0 l.b)))
