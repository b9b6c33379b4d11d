-- The lattice data that an order with negations is.
use Rattle.xc_theory.specs.Lattices.{LatticeData}
use Rattle.xc_laws.specs.declared.bounded.Bounded.{Bounded}

abbrev pub lattice_of : Bounded → LatticeData
lattice_of l = record { order = l.order.now; negations = l.negations.now }
