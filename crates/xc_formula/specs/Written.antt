-- Formulas as they are written. The tokens are split at an operator: `->` binds least and groups to the right, then come `|`
-- and `&`, which group to the left.
use Rattle.std.specs.Prelude.{ℕ, suc, Bool, true, ◌≡◌, ◌&&◌, not, List, [], ◌∷◌, ◌++◌, codes}
use Rattle.std.specs.List.{list_all}
use Rattle.xc_base.specs.Names.{is_among}
use Rattle.xc_base.specs.Words.{is_name}
use Rattle.xc_formula.specs.declared.prefix.Prefix.{Prefix}
use Rattle.xc_formula.specs.declared.prefix.Prefix.TheVariants.{Negation, SomeNext, AllNext, SomeFinally, AllFinally, SomeGlobally, AllGlobally}
use Rattle.xc_formula.specs.declared.prefix.Paths.{Paths}
use Rattle.xc_formula.specs.declared.prefix.Paths.TheVariants.{SomePath, EveryPath}

-- the words that are no proposition's name in a formula
abbrev pub reserved_words : List (List ℕ)
reserved_words =
    codes "true" ∷ codes "false" ∷ codes "EX" ∷ codes "AX" ∷ codes "EF" ∷ codes "AF" ∷ codes "EG" ∷ codes "AG" ∷ codes "E" ∷ codes "A" ∷ codes "U" ∷ []

abbrev pub is_prop_name : List ℕ → Bool
is_prop_name text = is_name text && not (is_among reserved_words text)

-- the operators that stand before a formula
abbrev pub prefix_word : Prefix → List ℕ
prefix_word Negation = codes "!"
prefix_word SomeNext = codes "EX"
prefix_word AllNext = codes "AX"
prefix_word SomeFinally = codes "EF"
prefix_word AllFinally = codes "AF"
prefix_word SomeGlobally = codes "EG"
prefix_word AllGlobally = codes "AG"

-- what stands before `[`
abbrev pub path_word : Paths → List ℕ
path_word SomePath = codes "E"
path_word EveryPath = codes "A"

-- a formula as it is written
pub data Written : Type 0 where
  True : Written
  False : Written
  Name : List ℕ → Written
  Braces : List (List ℕ) → Written
  Prefixed : Prefix → Written → Written
  Until : Paths → Written → Written → Written
  And : Written → Written → Written
  Or : Written → Written → Written
  Implies : Written → Written → Written

-- what stands between two `->`, between two `|`, between two `&`, and alone
pub data Level : Type 0 where
  Implication : Level
  Sum : Level
  Product : Level
  Basic : Level

-- names with a `,` between two
abbrev pub listed : List (List ℕ) → List (List ℕ)
listed [] = []
listed (name ∷ []) = name ∷ []
listed (name ∷ next ∷ more) = name ∷ codes "," ∷ listed (next ∷ more)

-- The tokens are that formula, at that level, with at most so many prefixes and brackets around each other.
pub data IsSpelled : Level → ℕ → List (List ℕ) → Written → Type 0 where
  truth : (d : ℕ) → IsSpelled Basic d (codes "true" ∷ []) True
  falsity : (d : ℕ) → IsSpelled Basic d (codes "false" ∷ []) False
  name : (d : ℕ) (p : List ℕ) → is_prop_name p ≡ true → IsSpelled Basic d (p ∷ []) (Name p)
  braces : (d : ℕ) (v : List ℕ) (more : List (List ℕ)) → list_all is_name (v ∷ more) ≡ true → IsSpelled Basic d (codes "{" ∷ listed (v ∷ more) ++ codes "}" ∷ []) (Braces (v ∷ more))
  prefixed : (d : ℕ) (p : Prefix) (tokens : List (List ℕ)) (f : Written) → IsSpelled Basic d tokens f → IsSpelled Basic (suc d) (prefix_word p ∷ tokens) (Prefixed p f)
  until : (d : ℕ) (q : Paths) (left right : List (List ℕ)) (f g : Written) → IsSpelled Implication d left f → IsSpelled Implication d right g
      → IsSpelled Basic (suc d) (path_word q ∷ codes "[" ∷ left ++ codes "U" ∷ right ++ codes "]" ∷ []) (Until q f g)
  enclosed : (d : ℕ) (tokens : List (List ℕ)) (f : Written) → IsSpelled Implication d tokens f → IsSpelled Basic (suc d) (codes "(" ∷ tokens ++ codes ")" ∷ []) f
  factor : (d : ℕ) (tokens : List (List ℕ)) (f : Written) → IsSpelled Basic d tokens f → IsSpelled Product d tokens f
  and : (d : ℕ) (left right : List (List ℕ)) (f g : Written) → IsSpelled Product d left f → IsSpelled Basic d right g → IsSpelled Product d (left ++ codes "&" ∷ right) (And f g)
  summand : (d : ℕ) (tokens : List (List ℕ)) (f : Written) → IsSpelled Product d tokens f → IsSpelled Sum d tokens f
  or : (d : ℕ) (left right : List (List ℕ)) (f g : Written) → IsSpelled Sum d left f → IsSpelled Product d right g → IsSpelled Sum d (left ++ codes "|" ∷ right) (Or f g)
  conclusion : (d : ℕ) (tokens : List (List ℕ)) (f : Written) → IsSpelled Sum d tokens f → IsSpelled Implication d tokens f
  implies : (d : ℕ) (left right : List (List ℕ)) (f g : Written) → IsSpelled Sum d left f → IsSpelled Implication d right g → IsSpelled Implication d (left ++ codes "->" ∷ right) (Implies f g)

-- how many prefixes and brackets, of both kinds, may stand around each other
abbrev pub depth_limit : ℕ
depth_limit = 512

-- the tokens are that formula
abbrev pub IsFormula : List (List ℕ) → Written → Type 0
IsFormula tokens f = IsSpelled Implication depth_limit tokens f
