-- How an action is read: functions that decide what its spelling says.
use Rattle.std.specs.Prelude.{ℕ, ◌-◌, Bool, false, ◌&&◌, if◌then◌else◌, List, [], ◌∷◌, ◌++◌, map, take, drop, Option, Some, None, codes}
use Rattle.std.specs.List.{slice_index_or}
use Rattle.std.specs.Option.{option_map}
use Rattle.std.specs.Str.{bytes_eq}
use Rattle.xc_expr.specs.Written.{Assigned, To, Next, Prev, Any, set}
use Rattle.xc_forms.specs.VariableNames.{is_variable_name, is_value_name}
use Rattle.xc_expr.specs.Resolving.{both}
use Rattle.xc_expr.specs.declared.setting.Setting.{Setting}

-- a variable behind which `:=` stands
abbrev pub is_set : List ℕ → List ℕ → Bool
is_set x sign = is_variable_name x && bytes_eq sign (codes ":=")

-- a variable that is set to any value, or to what a name stands for
abbrev pub set_to_word : List ℕ → List ℕ → List ℕ → Option Assigned
set_to_word x sign w =
    if is_set x sign then (if bytes_eq w (codes "any") then Some (Any x) else (if is_value_name w then Some (To x w) else None)) else None

-- a variable that is set to the place behind or before that of another
abbrev pub set_by_step : List ℕ → List ℕ → List ℕ → List ℕ → Option Assigned
set_by_step x sign step y =
    if is_set x sign && is_variable_name y then
    (if bytes_eq step (codes "next") then Some (Next x y) else (if bytes_eq step (codes "prev") then Some (Prev x y) else None))
    else None

-- the assignment that tokens are, where they are one
unfoldable pub assignment_in : List (List ℕ) → Option Assigned
assignment_in [] = None
assignment_in (x ∷ []) = None
assignment_in (x ∷ sign ∷ []) = None
assignment_in (x ∷ sign ∷ w ∷ []) = set_to_word x sign w
assignment_in (x ∷ sign ∷ step ∷ y ∷ []) = set_by_step x sign step y
assignment_in (x ∷ sign ∷ step ∷ y ∷ other ∷ more) = None

abbrev pub is_mark : List ℕ → Bool
is_mark token = bytes_eq token (codes ";")

-- the assignments that tokens with `;` between them are, of which the first ones of an assignment are taken already
unfoldable pub assignments_in : List (List ℕ) → List (List ℕ) → Option (List Assigned)
assignments_in begun [] = option_map (λ a. a ∷ []) (assignment_in begun)
assignments_in begun (token ∷ tokens) =
    if is_mark token then both (λ a more. a ∷ more) (assignment_in begun) (assignments_in [] tokens)
    else assignments_in (begun ++ token ∷ []) tokens

abbrev pub is_skip : List (List ℕ) → Bool
is_skip [] = false
is_skip (token ∷ []) = bytes_eq token (codes "skip")
is_skip (token ∷ other ∷ more) = false

-- whether the token at a place is `;`
unfoldable pub is_mark_at : List (List ℕ) → ℕ → Bool
is_mark_at tokens place = is_mark (slice_index_or tokens place [])

-- the assignment that the tokens from one place up to another are
unfoldable pub assignment_at : List (List ℕ) → ℕ → ℕ → Option Assigned
assignment_at tokens start end = assignment_in (take (end - start) (drop start tokens))

-- what settings come to with the tokens that are left, of which those from one place up to another are taken already
unfoldable pub reads_from : List Setting → List (List ℕ) → ℕ → ℕ → Option (List Assigned)
reads_from settings tokens start place =
    option_map (λ more. map set settings ++ more) (assignments_in (take (place - start) (drop start tokens)) (drop place tokens))
