-- What follows from the definitions, as statements that public functions carry.
use Rattle.std.specs.Prelude.{◌≡◌, List, ◌⊎◌}
use Rattle.xc_base.specs.declared.fault.FileFault.{FileFault}
use Rattle.xc_base.specs.Formats.{Row, IsAccepted, IsFirstFault}
use Rattle.xc_ctl.specs.Trees.{Signature}
use Rattle.xc_ctl.specs.declared.kind.Kind.{Kind}
use Rattle.xc_formula_text.specs.FormulaFiles.{formula_format}

-- no file says two lists of formulas
abbrev pub TablesAreUnique : Type 0
TablesAreUnique = (n : Signature) (rows : List Row) (tables others : List (List Kind)) → IsAccepted (formula_format n) rows tables → IsAccepted (formula_format n) rows others → tables ≡ others

-- no file has two first faults
abbrev pub FaultsAreUnique : Type 0
FaultsAreUnique = (n : Signature) (rows : List Row) (fault other : FileFault) → IsFirstFault (formula_format n) rows fault → IsFirstFault (formula_format n) rows other → fault ≡ other

-- no file is accepted and has a fault as well
abbrev pub AcceptedHasNoFault : Type 0
AcceptedHasNoFault = (n : Signature) (rows : List Row) (tables : List (List Kind)) (fault : FileFault) → IsAccepted (formula_format n) rows tables → IsFirstFault (formula_format n) rows fault → ⊥

-- each file is accepted or has a first fault
abbrev pub EachIsJudged : Type 0
EachIsJudged = (n : Signature) (rows : List Row) → ((tables : List (List Kind)) × IsAccepted (formula_format n) rows tables) ⊎ ((fault : FileFault) × IsFirstFault (formula_format n) rows fault)
