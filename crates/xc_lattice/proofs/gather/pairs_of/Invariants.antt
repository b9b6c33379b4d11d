use Rattle.std.proofs.Common.{◌≡◌, ◌++◌, drop}
use Rattle.xc_lattice.specs.Drafts.{pairs_of}
use Rattle.xc_lattice.proofs.gather.pairs_of.Given as goal

abbrev pub invariant-loop-s : goal.invariant-loop-s
invariant-loop-s l = l.pairs ++ pairs_of l.names (drop l.s-index l.statements) ≡ pairs_of l.names l.statements
