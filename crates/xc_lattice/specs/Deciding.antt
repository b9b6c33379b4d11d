-- Which statement of a lattice file a row is.
use Rattle.std.specs.Prelude.{ℕ, Bool, ◌&&◌, nat_lt, if◌then◌else◌, List, [], ◌∷◌, length, Option, Some, None, codes}
use Rattle.std.specs.List.{list_all}
use Rattle.std.specs.Str.{bytes_eq}
use Rattle.xc_base.specs.Words.{is_name}
use Rattle.xc_lattice.specs.declared.statement.Statement.{Statement}
use Rattle.xc_lattice.specs.declared.statement.Statement.TheVariants.{Lattice, Elements, Below, Not}

-- the statement, where the test says so
abbrev pub given : Bool → Statement → Option Statement
given b s = if b then Some s else None

abbrev pub head_line : List (List ℕ) → Option Statement
head_line (word ∷ name ∷ []) = given (bytes_eq word (codes "lattice") && is_name name) (Lattice name)
head_line _ = None

abbrev pub elements_line : List (List ℕ) → Option Statement
elements_line (word ∷ names) = given (bytes_eq word (codes "elements") && (nat_lt 0 (length names) && list_all is_name names)) (Elements names)
elements_line [] = None

abbrev pub pair_line : List ℕ → List ℕ → List ℕ → Option Statement
pair_line word a b = if bytes_eq word (codes "below") then Some (Below a b) else given (bytes_eq word (codes "not")) (Not a b)

abbrev pub law_line : List (List ℕ) → Option Statement
law_line (word ∷ a ∷ b ∷ []) = if is_name a && is_name b then pair_line word a b else None
law_line _ = None

-- the statement that a row with these tokens is after the statements before it
unfoldable pub decide : List Statement → List (List ℕ) → Option Statement
decide [] tokens = head_line tokens
decide (s ∷ []) tokens = elements_line tokens
decide (s ∷ t ∷ more) tokens = law_line tokens
