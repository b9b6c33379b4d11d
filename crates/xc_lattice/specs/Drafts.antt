-- What holds of the statements of a whole file, none of which has a fault, and what a reader makes of them.
-- Words for the steps of the code: public clauses do not rest on them.
use Rattle.std.specs.Prelude.{◌≡◌, ◌<◌, ◌≤◌, ℕ, true, false, ◌++◌, List, [], ◌∷◌, length, map, Option, Some, None, if◌then◌else◌}
use Rattle.std.specs.List.{list_any, list_all}
use Rattle.std.specs.Str.{bytes_eq}
use Rattle.xc_base.specs.Words.{is_name}
use Rattle.xc_theory.specs.Lattices.{IsWellShaped, size, below}
use Rattle.xc_order.specs.declared.order.Pair.{Pair}
use Rattle.xc_lattice.specs.declared.statement.Statement.{Statement}
use Rattle.xc_lattice.specs.declared.statement.Statement.TheVariants.{Lattice, Elements, Below, Not}
use Rattle.xc_lattice.specs.LatticeFiles.{LatticeValue, negates}
use Rattle.xc_base.specs.Names.{is_among, has_twice, place_of}

-- a statement on elements of these names, which negates none that the statements before it negate
abbrev pub IsFact : List (List ℕ) → List Statement → Statement → Type 0
IsFact names before (Below low high) = (is_among names low ≡ true) × (is_among names high ≡ true)
IsFact names before (Not element negated) = (is_among names element ≡ true) × (is_among names negated ≡ true) × (list_any (negates element) before ≡ false)
IsFact _ _ _ = ⊥

abbrev pub AreFacts : List (List ℕ) → List Statement → List Statement → Type 0
AreFacts names before [] = Unit {0}
AreFacts names before (s ∷ more) = IsFact names before s × AreFacts names (before ++ s ∷ []) more

-- the file's name, its elements, and facts on these
pub record IsDraft (statements : List Statement) : Type 0 where
  pub name : List ℕ
  pub names : List (List ℕ)
  pub facts : List Statement
  pub parts : statements ≡ Lattice name ∷ Elements names ∷ facts
  pub titled : is_name name ≡ true
  pub some : 2 ≤ length names
  pub few : length names ≤ 64
  pub different : has_twice names ≡ false
  pub named : list_all is_name names ≡ true
  pub known : AreFacts names (Lattice name ∷ Elements names ∷ []) facts

-- the name of the first statement on the file's name
abbrev pub file_name : List Statement → Option (List ℕ)
file_name [] = None
file_name (Lattice name ∷ more) = Some name
file_name (_ ∷ more) = file_name more

-- the places of what the statements say is below
abbrev pub pairs_of : List (List ℕ) → List Statement → List Pair
pairs_of names [] = []
pairs_of names (Below low high ∷ more) = record { low = place_of names low; high = place_of names high } ∷ pairs_of names more
pairs_of names (_ ∷ more) = pairs_of names more

-- the name that the first statement on an element's negation gives
abbrev pub negated_by : List Statement → List ℕ → Option (List ℕ)
negated_by [] name = None
negated_by (Not element negated ∷ more) name = if bytes_eq name element then Some negated else negated_by more name
negated_by (_ ∷ more) name = negated_by more name

-- the place of a name, and the end of the names where there is no name
abbrev pub place_or_end : List (List ℕ) → Option (List ℕ) → ℕ
place_or_end names None = length names
place_or_end names (Some name) = place_of names name

-- the place of an element's negation
abbrev pub negation_place : List (List ℕ) → List Statement → List ℕ → ℕ
negation_place names statements name = place_or_end names (negated_by statements name)

-- the negations of the elements
abbrev pub negations_of : List (List ℕ) → List Statement → List ℕ
negations_of names statements = map (negation_place names statements) names

-- a value that can be judged by the laws: with a name, of 2 to 64 elements, each with a name of its own and a negation, and an order
pub record IsReady (v : LatticeValue) : Type 0 where
  pub shape : IsWellShaped v.algebra
  pub reflexive : (a : ℕ) → a < size v.algebra → below v.algebra a a ≡ true
  pub transitive : (a b c : ℕ) → a < size v.algebra → b < size v.algebra → c < size v.algebra → below v.algebra a b ≡ true → below v.algebra b c ≡ true → below v.algebra a c ≡ true
  pub titled : is_name v.name ≡ true
  pub named : length v.names ≡ size v.algebra
  pub names_are : list_all is_name v.names ≡ true
  pub different : has_twice v.names ≡ false
  pub some : 2 ≤ size v.algebra
  pub few : size v.algebra ≤ 64
