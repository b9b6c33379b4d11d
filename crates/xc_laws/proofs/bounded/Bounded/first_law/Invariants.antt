use Rattle.std.proofs.Common.{◌≡◌, drop}
use Rattle.xc_laws.specs.Breaks.{laws, first_of}
use Rattle.xc_laws.specs.Bounded.{lattice_of}
use Rattle.xc_laws.proofs.bounded.Bounded.first_law.Given as goal

abbrev pub invariant-loop-law : goal.invariant-loop-law
invariant-loop-law l = first_of (lattice_of l.self) (drop l.law-index laws) ≡ first_of (lattice_of l.self) laws
