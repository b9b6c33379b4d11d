-- The steps by which a formula that is written out is printed.
-- Words for the steps of the code: public clauses do not rest on them.
use Rattle.std.specs.Prelude.{ℕ, Bool, ◌||◌, if◌then◌else◌, List, [], ◌∷◌, ◌++◌, drop, codes}
use Rattle.xc_theory.specs.Codes.{digits}
use Rattle.xc_formula.specs.Written.{listed}
use Rattle.xc_formula_text.specs.Texts.{is_and, is_or, digit_names}
use Rattle.xc_ctl.specs.Trees.{Tree, sizes_of}

-- whether two formulas stand in it with an operator between them
abbrev pub is_joined : Tree → Bool
is_joined t = is_and t || is_or t

-- a token, where it is wanted
abbrev pub only_if : Bool → List ℕ → List (List ℕ)
only_if wanted token = if wanted then token ∷ [] else []

-- the names of the digits from a place on, where these come to a code
unfoldable pub digits_from : List (List (List ℕ)) → ℕ → ℕ → List (List ℕ)
digits_from parts place code = listed (digit_names (drop place parts) (digits (sizes_of (drop place parts)) code))

-- the names of an element's digits in braces
unfoldable pub element_braces : List (List (List ℕ)) → ℕ → List (List ℕ)
element_braces parts code = codes "{" ∷ digits_from parts 0 code ++ codes "}" ∷ []
