-- What follows from the definitions, as statements that a public function carries.
use Rattle.std.specs.Prelude.{◌≡◌, List, ◌⊎◌}
use Rattle.xc_base.specs.declared.fault.FileFault.{FileFault}
use Rattle.xc_base.specs.Formats.{Row, IsAccepted, IsFirstFault}
use Rattle.xc_view.specs.ViewFiles.{ViewValue, view_format}

-- no file says two views
abbrev pub ViewsAreUnique : Type 0
ViewsAreUnique = (rows : List Row) (v w : ViewValue) → IsAccepted view_format rows v → IsAccepted view_format rows w → v ≡ w

-- no file has two first faults
abbrev pub FaultsAreUnique : Type 0
FaultsAreUnique = (rows : List Row) (fault other : FileFault) → IsFirstFault view_format rows fault → IsFirstFault view_format rows other → fault ≡ other

-- no file is a view and has a fault as well
abbrev pub AcceptedHasNoFault : Type 0
AcceptedHasNoFault = (rows : List Row) (v : ViewValue) (fault : FileFault) → IsAccepted view_format rows v → IsFirstFault view_format rows fault → ⊥

-- each file is a view or has a first fault
abbrev pub EachIsJudged : Type 0
EachIsJudged = (rows : List Row) → ((v : ViewValue) × IsAccepted view_format rows v) ⊎ ((fault : FileFault) × IsFirstFault view_format rows fault)
