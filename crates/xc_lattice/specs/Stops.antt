-- The fault of a lattice file where its statements stop.
use Rattle.xc_base.specs.declared.fault.Stop.{Stop}
use Rattle.xc_base.specs.declared.fault.Stop.TheVariants as stops
use Rattle.xc_lattice.specs.declared.fault.LatFault.{LatFault}
use Rattle.xc_lattice.specs.declared.fault.LatFault.TheVariants.{File, Memory}

abbrev pub fault_of : Stop → LatFault
fault_of (stops.File fault) = File fault
fault_of stops.Memory = Memory
