-- A lattice as a canonical file.
use Rattle.std.specs.Prelude.{ℕ, Bool, ◌&&◌, ◌==◌, not, List, ◌∷◌, ◌++◌, map, filter}
use Rattle.std.specs.List.{flat_map}
use Rattle.xc_theory.specs.Orders.{elements}
use Rattle.xc_theory.specs.Lattices.{LatticeData, below, negation}
use Rattle.xc_base.specs.Names.{name_at}
use Rattle.xc_lattice.specs.declared.statement.Statement.{Statement}
use Rattle.xc_lattice.specs.declared.statement.Statement.TheVariants.{Lattice, Elements, Below, Not}
use Rattle.xc_lattice.specs.LatticeFiles.{LatticeValue, spelling}

-- whether a is below b and another element
abbrev pub is_strictly_below : LatticeData → ℕ → ℕ → Bool
is_strictly_below l a b = not (a == b) && below l a b

-- that a is below those of the elements that it is strictly below
abbrev pub below_statements : LatticeValue → ℕ → List ℕ → List Statement
below_statements v a others = map (λ b. Below (name_at v.names a) (name_at v.names b)) (filter (is_strictly_below v.algebra a) others)

-- the negation of each of the elements
abbrev pub not_statements : LatticeValue → List ℕ → List Statement
not_statements v some = map (λ a. Not (name_at v.names a) (name_at v.names (negation v.algebra a))) some

-- the lattice's name, its elements, what is below what, and the negations
abbrev pub printed : LatticeValue → List Statement
printed v =
    Lattice v.name ∷ Elements v.names
    ∷ flat_map (λ a. below_statements v a (elements v.algebra.order)) (elements v.algebra.order)
    ++ not_statements v (elements v.algebra.order)

-- the tokens of their lines
abbrev pub lattice_lines : LatticeValue → List (List (List ℕ))
lattice_lines v = map spelling (printed v)
