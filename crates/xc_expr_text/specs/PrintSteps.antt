-- The steps by which guards and actions are printed.
-- Words for the steps of the code: public clauses do not rest on them.
use Rattle.std.specs.Prelude.{ℕ, Bool, if◌then◌else◌, List, [], ◌∷◌, ◌++◌, codes}
use Rattle.xc_expr.specs.Written.{Assigned, assignment_tokens}

-- a token, where it is wanted
abbrev pub only_if : Bool → List ℕ → List (List ℕ)
only_if wanted token = if wanted then token ∷ [] else []

-- assignments, each with `;` before it
unfoldable pub tokens_behind : List Assigned → List (List ℕ)
tokens_behind [] = []
tokens_behind (a ∷ more) = codes ";" ∷ assignment_tokens a ++ tokens_behind more
