-- Which variable a line declares.
-- Words for the steps of the code: public clauses of formats do not rest on them.
use Rattle.std.specs.Prelude.{ℕ, ◌&&◌, nat_lt, if◌then◌else◌, List, [], ◌∷◌, length, Option, Some, None}
use Rattle.std.specs.List.{list_all}
use Rattle.xc_forms.specs.VariableNames.{is_variable_name, is_value_name}
use Rattle.xc_forms.specs.declared.domain.Domain.{Domain}

-- the tokens behind `var`: a name, and one value or more
abbrev pub var_line : List (List ℕ) → Option Domain
var_line (name ∷ values) = if is_variable_name name && (nat_lt 0 (length values) && list_all is_value_name values) then Some (record { name = name; values = values }) else None
var_line [] = None
