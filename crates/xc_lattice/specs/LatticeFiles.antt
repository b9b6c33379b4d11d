-- Lattice files: their statements, and what they say.
use Rattle.std.specs.Prelude.{◌≡◌, ◌<◌, ℕ, Bool, true, false, map, ◌&&◌, not, nat_lt, nat_le, if◌then◌else◌, List, [], ◌∷◌, length, Contains, find, Option, Some, None, option_map, codes}
use Rattle.std.specs.List.{list_any, list_all}
use Rattle.std.specs.Str.{bytes_eq}
use Rattle.xc_theory.specs.Orders.{IsSpannedBy}
use Rattle.xc_theory.specs.Lattices.{LatticeData, negation}
use Rattle.xc_base.specs.Words.{is_name}
use Rattle.xc_base.specs.Names.{is_among, has_twice, name_at}
use Rattle.xc_base.specs.Formats.{Format, Excess, Row, IsAccepted, IsFirstFault}
use Rattle.xc_base.specs.declared.fault.Part.{Part}
use Rattle.xc_base.specs.declared.fault.FileFault.{FileFault}
use Rattle.xc_base.specs.declared.fault.Part.TheVariants as parts
use Rattle.xc_base.specs.declared.fault.Counted.TheVariants as counted
use Rattle.xc_laws.specs.Breaks.{first_break}
use Rattle.xc_laws.specs.declared.law.Law.{Law}
use Rattle.xc_lattice.specs.declared.statement.Statement.{Statement}
use Rattle.xc_lattice.specs.declared.statement.Statement.TheVariants.{Lattice, Elements, Below, Not}

-- what a lattice file says: its name, its elements' names in order, and the order and the negations of the elements
pub record LatticeValue : Type 0 where
  pub name : List ℕ
  pub names : List (List ℕ)
  pub algebra : LatticeData

-- the tokens of a statement
abbrev pub spelling : Statement → List (List ℕ)
spelling (Lattice name) = codes "lattice" ∷ name ∷ []
spelling (Elements names) = codes "elements" ∷ names
spelling (Below low high) = codes "below" ∷ low ∷ high ∷ []
spelling (Not element negated) = codes "not" ∷ element ∷ negated ∷ []

-- whether it has names where it wants names, one or more of elements
abbrev pub has_names : Statement → Bool
has_names (Lattice name) = is_name name
has_names (Elements names) = nat_lt 0 (length names) && list_all is_name names
has_names (Below low high) = is_name low && is_name high
has_names (Not element negated) = is_name element && is_name negated

-- the file's name comes first, its elements second, and all else in any order behind them
abbrev pub is_due : List Statement → Statement → Bool
is_due [] (Lattice name) = true
is_due (s ∷ []) (Elements names) = true
is_due (s ∷ t ∷ more) (Below low high) = true
is_due (s ∷ t ∷ more) (Not element negated) = true
is_due _ _ = false

pub record IsDue (before : List Statement) (tokens : List (List ℕ)) (s : Statement) : Type 0 where
  pub spelled : tokens ≡ spelling s
  pub named : has_names s ≡ true
  pub placed : is_due before s ≡ true

-- the names of the statement on elements
abbrev pub element_names : List Statement → List (List ℕ)
element_names [] = []
element_names (Elements names ∷ more) = names
element_names (_ ∷ more) = element_names more

-- whether the statement gives the element's negation
abbrev pub negates : List ℕ → Statement → Bool
negates name (Not element negated) = bytes_eq name element
negates _ _ = false

-- an element named twice, or a second negation of one element
abbrev pub is_repeated : List Statement → Statement → Bool
is_repeated before (Elements names) = has_twice names
is_repeated before (Not element negated) = list_any (negates element) before
is_repeated _ _ = false

-- a name that is no element
abbrev pub is_unknown : List Statement → Statement → Bool
is_unknown before (Below low high) = not (is_among (element_names before) low && is_among (element_names before) high)
is_unknown before (Not element negated) = not (is_among (element_names before) element && is_among (element_names before) negated)
is_unknown _ _ = false

-- fewer than 2 elements, or more than 64
abbrev pub element_excess : List Statement → Statement → Option Excess
element_excess before (Elements names) = if nat_le 2 (length names) && nat_le (length names) 64 then None else Some (record { what = counted.Elements; found = length names })
element_excess _ _ = None

-- the name, then the elements, then the negation of the first element that has none
abbrev pub missing_part : List Statement → Option Part
missing_part [] = Some parts.Head
missing_part (s ∷ []) = Some parts.Elements
missing_part (s ∷ t ∷ more) = option_map parts.Not (find (λ name. not (list_any (negates name) (s ∷ t ∷ more))) (element_names (s ∷ t ∷ more)))

-- the statements say that element a is below element b, or that b is the negation of a
abbrev pub SaysBelow : List Statement → List (List ℕ) → ℕ → ℕ → Type 0
SaysBelow statements names a b = Contains statements (Below (name_at names a) (name_at names b))

abbrev pub SaysNegation : List Statement → List (List ℕ) → ℕ → ℕ → Type 0
SaysNegation statements names a b = Contains statements (Not (name_at names a) (name_at names b))

-- What the statements of a file say: the order is the reflexive and transitive closure of what they say is below.
pub record Says (statements : List Statement) (v : LatticeValue) : Type 0 where
  pub name : Contains statements (Lattice v.name)
  pub names : Contains statements (Elements v.names)
  pub order : IsSpannedBy (length v.names) (SaysBelow statements v.names) v.algebra.order
  pub negations : length v.algebra.negations ≡ length v.names
  pub negated : (a : ℕ) → a < length v.names → (negation v.algebra a < length v.names) × SaysNegation statements v.names a (negation v.algebra a)

abbrev pub lattice_format : Format Statement LatticeValue
lattice_format = record { Due = IsDue; repeated = is_repeated; unknown = is_unknown; count = element_excess; missing = missing_part; Says = Says }

-- What comes of a lattice file: its first fault, or the first law that it breaks with the names of the elements that
-- break it, or its lattice.
pub data Verdict : Type 0 where
  Faulty : FileFault → Verdict
  Unlawful : Law → List (List ℕ) → Verdict
  Lawful : LatticeValue → Verdict

-- the file says v, of which the first break is of this law and by elements of these names
pub record IsBrokenBy (rows : List Row) (law : Law) (names : List (List ℕ)) : Type 0 where
  pub value : LatticeValue
  pub elements : List ℕ
  pub accepted : IsAccepted lattice_format rows value
  pub broken : first_break value.algebra ≡ Some (record { law = law; elements = elements })
  pub named : names ≡ map (name_at value.names) elements

pub record IsLattice (rows : List Row) (v : LatticeValue) : Type 0 where
  pub accepted : IsAccepted lattice_format rows v
  pub unbroken : first_break v.algebra ≡ None

abbrev pub IsVerdict : List Row → Verdict → Type 0
IsVerdict rows (Faulty fault) = IsFirstFault lattice_format rows fault
IsVerdict rows (Unlawful law names) = IsBrokenBy rows law names
IsVerdict rows (Lawful v) = IsLattice rows v
