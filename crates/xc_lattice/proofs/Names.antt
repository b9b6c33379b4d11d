-- Names among names, and the statements that have them, as loops go over them.
use Rattle.std.proofs.Common.{◌≡◌, ℕ, suc, ◌+◌, ◌<◌, ◌≤◌, Bool, true, false, if◌then◌else◌, not, List, [], ◌∷◌, ◌++◌, Option, Some, None, length, get_or, drop, drop-cons, add-one, refl, arith}
use Rattle.std.specs.List.{list_any, find}
use Rattle.std.specs.Option.{option_map}
use Rattle.std.specs.Str.{bytes_eq}
use Rattle.xc_base.specs.declared.fault.Part.TheVariants as parts
use Rattle.xc_lattice.specs.Drafts.{file_name, pairs_of, negated_by}
use Rattle.xc_lattice.specs.declared.statement.Statement.{Statement}
use Rattle.xc_lattice.specs.declared.statement.Statement.TheVariants.{Lattice, Elements, Below, Not}
use Rattle.xc_lattice.specs.LatticeFiles.{element_names, negates, missing_part, element_excess}

pub elements_from : (statements : List Statement) (i : ℕ) (d : Statement) → i < length statements → element_names (drop i statements) ≡ element_names (get_or statements i d ∷ drop (i + 1) statements)
elements_from statements i d h = rw (add-one, drop-cons statements i d)

pub name_from : (statements : List Statement) (i : ℕ) (d : Statement) → i < length statements → file_name (drop i statements) ≡ file_name (get_or statements i d ∷ drop (i + 1) statements)
name_from statements i d h = rw (add-one, drop-cons statements i d)

-- the pairs of the first statement, and those of the others
pairs_cons : (names : List (List ℕ)) (s : Statement) (more : List Statement) → pairs_of names (s ∷ more) ≡ pairs_of names (s ∷ []) ++ pairs_of names more
pairs_cons names (Lattice name) more = refl
pairs_cons names (Elements others) more = refl
pairs_cons names (Below low high) more = refl
pairs_cons names (Not element negated) more = refl

pub pairs_from : (names : List (List ℕ)) (statements : List Statement) (i : ℕ) (d : Statement) → i < length statements → pairs_of names (drop i statements) ≡ pairs_of names (get_or statements i d ∷ []) ++ pairs_of names (drop (i + 1) statements)
pairs_from names statements i d h = rw (add-one, drop-cons statements i d) (pairs_cons names (get_or statements i d) (drop (suc i) statements))

-- what the first statement says of an element's negation, and else the others
abbrev pub or_else : {X : Type 0} → Option X → Option X → Option X
or_else None other = other
or_else (Some x) other = Some x

negated_cond : (b : Bool) (x : List ℕ) (other : Option (List ℕ)) → (if b then Some x else other) ≡ or_else (if b then Some x else None) other
negated_cond true x other = refl
negated_cond false x other = refl

negated_cons : (name : List ℕ) (s : Statement) (more : List Statement) → negated_by (s ∷ more) name ≡ or_else (negated_by (s ∷ []) name) (negated_by more name)
negated_cons name (Lattice other) more = refl
negated_cons name (Elements others) more = refl
negated_cons name (Below low high) more = refl
negated_cons name (Not element negated) more = negated_cond (bytes_eq name element) negated (negated_by more name)

pub negated_from : (statements : List Statement) (i : ℕ) (d : Statement) (name : List ℕ) → i < length statements → negated_by (drop i statements) name ≡ or_else (negated_by (get_or statements i d ∷ []) name) (negated_by (drop (i + 1) statements) name)
negated_from statements i d name h = rw (add-one, drop-cons statements i d) (negated_cons name (get_or statements i d) (drop (suc i) statements))

-- behind the elements the first part that lacks is a negation
pub missing_late : (statements : List Statement) → 2 ≤ length statements → missing_part statements ≡ option_map parts.Not (find (λ name. not (list_any (negates name) statements)) (element_names statements))
missing_late [] h = absurd (omega arith)
missing_late (s ∷ []) h = absurd (omega arith)
missing_late (s ∷ t ∷ more) h = refl

-- the number of elements does not depend on the statements before
pub excess_anywhere : (before : List Statement) (s : Statement) → element_excess before s ≡ element_excess [] s
excess_anywhere before (Lattice name) = refl
excess_anywhere before (Elements names) = refl
excess_anywhere before (Below low high) = refl
excess_anywhere before (Not element negated) = refl
