use Rattle.std.proofs.Common.{◌≡◌, drop}
use Rattle.xc_lattice.specs.LatticeFiles.{element_names}
use Rattle.xc_lattice.proofs.judge.element_names.Given as goal

abbrev pub invariant-loop-s : goal.invariant-loop-s
invariant-loop-s l = element_names (drop l.s-index l.statements) ≡ element_names l.statements
