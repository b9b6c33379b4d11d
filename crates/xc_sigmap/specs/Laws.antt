-- What follows from the definitions, as statements that a public function carries.
use Rattle.std.specs.Prelude.{◌≡◌, List, ◌⊎◌}
use Rattle.xc_base.specs.declared.fault.FileFault.{FileFault}
use Rattle.xc_base.specs.Formats.{Row, IsAccepted, IsFirstFault}
use Rattle.xc_sigmap_lines.specs.MapFiles.{MapValue, map_format}

-- no file says two maps
abbrev pub MapsAreUnique : Type 0
MapsAreUnique = (rows : List Row) (v w : MapValue) → IsAccepted map_format rows v → IsAccepted map_format rows w → v ≡ w

-- no file has two first faults
abbrev pub FaultsAreUnique : Type 0
FaultsAreUnique = (rows : List Row) (fault other : FileFault) → IsFirstFault map_format rows fault → IsFirstFault map_format rows other → fault ≡ other

-- no file is a map and has a fault as well
abbrev pub AcceptedHasNoFault : Type 0
AcceptedHasNoFault = (rows : List Row) (v : MapValue) (fault : FileFault) → IsAccepted map_format rows v → IsFirstFault map_format rows fault → ⊥

-- each file is a map or has a first fault
abbrev pub EachIsJudged : Type 0
EachIsJudged = (rows : List Row) → ((v : MapValue) × IsAccepted map_format rows v) ⊎ ((fault : FileFault) × IsFirstFault map_format rows fault)
