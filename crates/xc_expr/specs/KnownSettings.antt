-- What settings set, and the assignments that they are.
use Rattle.std.specs.Prelude.{ℕ, Bool, false, List, [], ◌∷◌, ◌++◌, map, Option}
use Rattle.std.specs.List.{list_any}
use Rattle.std.specs.Option.{option_map}
use Rattle.std.specs.Str.{bytes_eq}
use Rattle.xc_expr.specs.Written.{set}
use Rattle.xc_expr.specs.Resolving.{set_name, sets_twice, resolved_assignment, resolved_action}
use Rattle.xc_expr.specs.declared.assign.Assign.{Assign}
use Rattle.xc_forms.specs.declared.domain.Domain.{Domain}
use Rattle.xc_expr.specs.declared.setting.Setting.{Setting}

-- the name of the variable that a setting sets
unfoldable pub name_set : Setting → List ℕ
name_set s = set_name (set s)

-- whether one of the settings sets the variable of that name
unfoldable pub is_set_in : List ℕ → List Setting → Bool
is_set_in name settings = list_any (λ s. bytes_eq name (name_set s)) settings

-- whether the variable that the first of the settings sets is set again
unfoldable pub repeats_first : List Setting → Bool
repeats_first [] = false
repeats_first (s ∷ more) = is_set_in (name_set s) more

-- whether a variable is set twice
unfoldable pub repeats : List Setting → Bool
repeats settings = sets_twice (map set settings)

-- the assignment that a setting is, where its names are known
unfoldable pub resolved_setting : List Domain → Setting → Option Assign
resolved_setting vars s = resolved_assignment vars (set s)

-- what assignments that are known and settings that are left come to
unfoldable pub resolves : List Domain → List Assign → List Setting → Option (List Assign)
resolves vars known settings = option_map (λ more. known ++ more) (resolved_action vars (map set settings))
