-- Lines that declare variables, in each format that has such lines.
use Rattle.std.specs.Prelude.{ℕ, Bool, ◌&&◌, ◌||◌, not, nat_lt, nat_le, if◌then◌else◌, List, [], ◌∷◌, ◌++◌, length, Option, Some, None, codes}
use Rattle.std.specs.List.{list_all}
use Rattle.xc_theory.specs.Codes.{total}
use Rattle.xc_base.specs.Names.{is_among, has_twice}
use Rattle.xc_base.specs.Formats.{Excess}
use Rattle.xc_base.specs.declared.fault.Counted.TheVariants as counted
use Rattle.xc_forms.specs.Variables.{names_of, state_limit}
use Rattle.xc_forms.specs.VariableNames.{is_variable_name, is_value_name}
use Rattle.xc_forms.specs.declared.domain.Domain.{Domain}

-- the line of a variable
abbrev pub var_tokens : Domain → List (List ℕ)
var_tokens d = codes "var" ∷ d.name ∷ d.values

-- a variable and its values have names of their kind
abbrev pub is_named_var : Domain → Bool
is_named_var d = is_variable_name d.name && list_all is_value_name d.values

-- and it has a value
abbrev pub is_var_line : Domain → Bool
is_var_line d = is_variable_name d.name && (nat_lt 0 (length d.values) && list_all is_value_name d.values)

-- it was declared before, or has a value twice
abbrev pub is_var_again : List Domain → Domain → Bool
is_var_again vars d = is_among (names_of vars) d.name || has_twice d.values

-- fewer than 2 values or more than 16; else too many states by the variables so far and this one
abbrev pub var_excess : List ℕ → ℕ → Option Excess
var_excess sizes size =
    if not (nat_le 2 size && nat_le size 16) then Some (record { what = counted.Values; found = size }) else
    if nat_lt state_limit (total (sizes ++ size ∷ [])) then Some (record { what = counted.States; found = total (sizes ++ size ∷ []) }) else None

-- too many, where so many may be and so many are there before it
abbrev pub line_excess : ℕ → ℕ → Excess → Option Excess
line_excess limit count excess = if nat_lt count limit then None else Some excess
