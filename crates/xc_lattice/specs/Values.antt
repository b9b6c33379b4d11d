-- The values that lattices stand for, and the faults of lattice files.
use Rattle.std.specs.Prelude.{◌≡◌, ℕ, List, map, Some, None}
use Rattle.xc_base.specs.Formats.{Row}
use Rattle.xc_laws.specs.Breaks.{first_break}
use Rattle.xc_lattice.specs.LatticeFiles.{LatticeValue, IsVerdict}
use Rattle.xc_base.specs.Names.{name_at}
use Rattle.xc_lattice.specs.LatticeFiles.Verdict.{Faulty, Unlawful}
use Rattle.xc_laws.specs.declared.law.Law.{Law}
use Rattle.xc_lattice.specs.declared.gather.Draft.{Draft}
use Rattle.xc_lattice.specs.declared.lattice.Lattice.{Lattice}
use Rattle.xc_lattice.specs.declared.fault.LatFault.{LatFault}
use Rattle.xc_lattice.specs.declared.fault.LatFault.TheVariants.{File, Broken, Memory}

-- what a lattice is
abbrev pub value_of : Lattice → LatticeValue
value_of l = record { name = l.name; names = l.names; algebra = record { order = l.order; negations = l.negations } }

-- what is gathered from a file
abbrev pub said : Draft → LatticeValue
said d = record { name = d.name; names = d.names; algebra = record { order = d.order; negations = d.negations } }

-- whether a reader of a file with these rows may refuse it so
abbrev pub IsFault : List Row → LatFault → Type 0
IsFault rows (File fault) = IsVerdict rows (Faulty fault)
IsFault rows (Broken law names) = IsVerdict rows (Unlawful law names)
IsFault rows Memory = Unit {0}

-- the first break of a value is of that law and by the elements of these names
pub record IsFirstBreak (v : LatticeValue) (law : Law) (names : List (List ℕ)) : Type 0 where
  pub elements : List ℕ
  pub broken : first_break v.algebra ≡ Some (record { law = law; elements = elements })
  pub named : names ≡ map (name_at v.names) elements

-- whether a value may be refused so
abbrev pub IsRefusal : LatticeValue → LatFault → Type 0
IsRefusal v (File fault) = ⊥
IsRefusal v (Broken law names) = IsFirstBreak v law names
IsRefusal v Memory = Unit {0}

-- the lattice is the value, which breaks no law
pub record IsAdmitted (v : LatticeValue) (l : Lattice) : Type 0 where
  pub same : value_of l ≡ v
  pub unbroken : first_break v.algebra ≡ None
