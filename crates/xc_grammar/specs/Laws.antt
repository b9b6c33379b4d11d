-- What holds of each kind of expressions, as statements that public functions carry.
use Rattle.std.specs.Prelude.{◌≡◌, ◌↔◌, ℕ, List, Option, Some}
use Rattle.xc_base.specs.Operators.{Front}
use Rattle.xc_grammar.specs.Grammars.{Grammar, IsSpelled, top}
use Rattle.xc_grammar.specs.Reading.{tree_in}

-- tokens are the tree that is read of them, and no other
abbrev pub TreesAreRead : {T : Type 0} → Grammar T → (List (List ℕ) → Option (Front T)) → Type 0
TreesAreRead {T} g atom = (d : ℕ) (tokens : List (List ℕ)) (t : T) → (tree_in g atom d tokens ≡ Some t) ↔ IsSpelled g (top g) d tokens t

-- no tokens are two trees
abbrev pub TreesAreUnique : {T : Type 0} → Grammar T → Type 0
TreesAreUnique {T} g = (d : ℕ) (tokens : List (List ℕ)) (t u : T) → IsSpelled g (top g) d tokens t → IsSpelled g (top g) d tokens u → t ≡ u
