-- Guards and actions as they are written: with names in place of variables and values. A guard's tokens are split at an
-- operator: `|` binds least, then `&`, and both group to the left.
use Rattle.std.specs.Prelude.{◌≡◌, ℕ, suc, Bool, true, ◌&&◌, List, [], ◌∷◌, ◌++◌, codes}
use Rattle.std.specs.List.{list_all}
use Rattle.xc_forms.specs.VariableNames.{is_variable_name, is_value_name}
use Rattle.xc_expr.specs.declared.phrase.Phrase.{Phrase}
use Rattle.xc_expr.specs.declared.phrase.Phrase.TheVariants as phrases
use Rattle.xc_expr.specs.declared.setting.Setting.{Setting}
use Rattle.xc_expr.specs.declared.setting.Setting.TheVariants as settings

-- a guard as it is written
pub data Written : Type 0 where
  True : Written
  False : Written
  Equal : List ℕ → List ℕ → Written
  Unequal : List ℕ → List ℕ → Written
  Not : Written → Written
  And : Written → Written → Written
  Or : Written → Written → Written

-- what stands between two `|`, between two `&`, and alone
pub data Level : Type 0 where
  Sum : Level
  Product : Level
  Basic : Level

-- The tokens are that guard, at that level, with at most so many `!` and brackets around each other.
pub data IsSpelled : Level → ℕ → List (List ℕ) → Written → Type 0 where
  truth : (d : ℕ) → IsSpelled Basic d (codes "true" ∷ []) True
  falsity : (d : ℕ) → IsSpelled Basic d (codes "false" ∷ []) False
  equal : (d : ℕ) (x w : List ℕ) → is_variable_name x ≡ true → is_value_name w ≡ true → IsSpelled Basic d (x ∷ codes "=" ∷ w ∷ []) (Equal x w)
  unequal : (d : ℕ) (x w : List ℕ) → is_variable_name x ≡ true → is_value_name w ≡ true → IsSpelled Basic d (x ∷ codes "!=" ∷ w ∷ []) (Unequal x w)
  negated : (d : ℕ) (tokens : List (List ℕ)) (g : Written) → IsSpelled Basic d tokens g → IsSpelled Basic (suc d) (codes "!" ∷ tokens) (Not g)
  enclosed : (d : ℕ) (tokens : List (List ℕ)) (g : Written) → IsSpelled Sum d tokens g → IsSpelled Basic (suc d) (codes "(" ∷ tokens ++ codes ")" ∷ []) g
  factor : (d : ℕ) (tokens : List (List ℕ)) (g : Written) → IsSpelled Basic d tokens g → IsSpelled Product d tokens g
  and : (d : ℕ) (left right : List (List ℕ)) (g h : Written) → IsSpelled Product d left g → IsSpelled Basic d right h → IsSpelled Product d (left ++ codes "&" ∷ right) (And g h)
  summand : (d : ℕ) (tokens : List (List ℕ)) (g : Written) → IsSpelled Product d tokens g → IsSpelled Sum d tokens g
  or : (d : ℕ) (left right : List (List ℕ)) (g h : Written) → IsSpelled Sum d left g → IsSpelled Product d right h → IsSpelled Sum d (left ++ codes "|" ∷ right) (Or g h)

-- how many `!` and brackets may stand around each other
abbrev pub depth_limit : ℕ
depth_limit = 64

-- the tokens are that guard
abbrev pub IsGuard : List (List ℕ) → Written → Type 0
IsGuard tokens g = IsSpelled Sum depth_limit tokens g

-- the guard that a phrase of the code is
abbrev pub written : Phrase → Written
written phrases.True = True
written phrases.False = False
written (phrases.Equal x w) = Equal x w
written (phrases.Unequal x w) = Unequal x w
written (phrases.Not' p g) = Not (written g)
written (phrases.And' p g q h) = And (written g) (written h)
written (phrases.Or' p g q h) = Or (written g) (written h)

-- an assignment as it is written: a variable, and what it is set to
pub data Assigned : Type 0 where
  To : List ℕ → List ℕ → Assigned
  Next : List ℕ → List ℕ → Assigned
  Prev : List ℕ → List ℕ → Assigned
  Any : List ℕ → Assigned

abbrev pub assignment_tokens : Assigned → List (List ℕ)
assignment_tokens (To x w) = x ∷ codes ":=" ∷ w ∷ []
assignment_tokens (Next x y) = x ∷ codes ":=" ∷ codes "next" ∷ y ∷ []
assignment_tokens (Prev x y) = x ∷ codes ":=" ∷ codes "prev" ∷ y ∷ []
assignment_tokens (Any x) = x ∷ codes ":=" ∷ codes "any" ∷ []

abbrev pub has_names : Assigned → Bool
has_names (To x w) = is_variable_name x && is_value_name w
has_names (Next x y) = is_variable_name x && is_variable_name y
has_names (Prev x y) = is_variable_name x && is_variable_name y
has_names (Any x) = is_variable_name x

-- assignments with `;` between them, or `skip` for none
abbrev pub action_tokens : List Assigned → List (List ℕ)
action_tokens [] = codes "skip" ∷ []
action_tokens (a ∷ []) = assignment_tokens a
action_tokens (a ∷ b ∷ more) = assignment_tokens a ++ codes ";" ∷ action_tokens (b ∷ more)

-- the tokens are that action
pub record IsAction (tokens : List (List ℕ)) (action : List Assigned) : Type 0 where
  pub spelled : tokens ≡ action_tokens action
  pub named : list_all has_names action ≡ true

-- the assignment that a setting of the code is
abbrev pub set : Setting → Assigned
set (settings.To x w) = To x.now w.now
set (settings.Next x y) = Next x.now y.now
set (settings.Prev x y) = Prev x.now y.now
set (settings.Any x) = Any x.now
