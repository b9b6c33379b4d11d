-- The printed text of a formula that is written out.
use Rattle.std.specs.Prelude.{ℕ, Bool, true, false, ◌||◌, ◌==◌, if◌then◌else◌, List, [], ◌∷◌, ◌++◌, codes}
use Rattle.xc_theory.specs.Codes.{digits}
use Rattle.xc_base.specs.Canonical.{spaced}
use Rattle.xc_base.specs.Names.{name_at}
use Rattle.xc_formula.specs.Written.{listed}
use Rattle.xc_ctl.specs.Trees.{Signature, sizes_of, Tree, Const, Atom, Not, And, Or, Ex, Eu, Au, Eg}

abbrev pub is_and : Tree → Bool
is_and (And s t) = true
is_and _ = false

abbrev pub is_or : Tree → Bool
is_or (Or s t) = true
is_or _ = false

-- brackets where they are needed
abbrev pub bracketed : Bool → List (List ℕ) → List (List ℕ)
bracketed true tokens = codes "(" ∷ tokens ++ codes ")" ∷ []
bracketed false tokens = tokens

-- the names of an element's digits, each in its part
abbrev pub digit_names : List (List (List ℕ)) → List ℕ → List (List ℕ)
digit_names [] row = []
digit_names (names ∷ parts) [] = []
digit_names (names ∷ parts) (digit ∷ row) = name_at names digit ∷ digit_names parts row

-- the top and the bottom are `true` and `false`, another element stands in braces
abbrev pub element_tokens : Signature → ℕ → List (List ℕ)
element_tokens n c =
    if c == n.top then codes "true" ∷ [] else
    if c == n.bottom then codes "false" ∷ [] else
    codes "{" ∷ listed (digit_names n.parts (digits (sizes_of n.parts) c)) ++ codes "}" ∷ []

-- two formulas in brackets, which need no others
abbrev pub until_tokens : List ℕ → List (List ℕ) → List (List ℕ) → List (List ℕ)
until_tokens word left right = word ∷ codes "[" ∷ left ++ codes "U" ∷ right ++ codes "]" ∷ []

-- What binds less than the operator above it gets brackets. So does a right operand with the operator itself, since that groups
-- to the left.
abbrev pub tokens_of : Signature → Tree → List (List ℕ)
tokens_of n (Const c) = element_tokens n c
tokens_of n (Atom p) = name_at n.props p ∷ []
tokens_of n (Not t) = codes "!" ∷ bracketed (is_and t || is_or t) (tokens_of n t)
tokens_of n (Ex t) = codes "EX" ∷ bracketed (is_and t || is_or t) (tokens_of n t)
tokens_of n (Eg t) = codes "EG" ∷ bracketed (is_and t || is_or t) (tokens_of n t)
tokens_of n (Eu s t) = until_tokens (codes "E") (tokens_of n s) (tokens_of n t)
tokens_of n (Au s t) = until_tokens (codes "A") (tokens_of n s) (tokens_of n t)
tokens_of n (And s t) = bracketed (is_or s) (tokens_of n s) ++ codes "&" ∷ bracketed (is_and t || is_or t) (tokens_of n t)
tokens_of n (Or s t) = tokens_of n s ++ codes "|" ∷ bracketed (is_or t) (tokens_of n t)

abbrev pub text_of : Signature → Tree → List ℕ
text_of n tree = spaced (tokens_of n tree)
