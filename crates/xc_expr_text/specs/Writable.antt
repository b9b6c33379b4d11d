-- Which guards and actions can be written, so that what is printed of them is read again.
use Rattle.std.specs.Prelude.{ℕ, suc, max, Bool, true, false, ◌&&◌, not, nat_le, List}
use Rattle.std.specs.List.{list_all}
use Rattle.xc_base.specs.Names.{is_among}
use Rattle.xc_forms.specs.Variables.{values_at}
use Rattle.xc_expr.specs.Tests.{Test, True, False, Is, IsNot, Same, Differ, Not, And, Or}
use Rattle.xc_expr.specs.Written as written
use Rattle.xc_expr.specs.Written.{Written, has_names, depth_limit}
use Rattle.xc_forms.specs.VariableNames.{is_variable_name, is_value_name}
use Rattle.xc_expr_text.specs.Printing.{variable_name, named_guard, named_action, is_or, is_joined}
use Rattle.xc_forms.specs.declared.domain.Domain.{Domain}
use Rattle.xc_expr.specs.declared.assign.Assign.{Assign}
use Rattle.xc_expr.specs.declared.assign.Assign.TheVariants.{Copy}

-- whether the names in a guard are ones that variables and values may have
abbrev pub has_fit_names : Written → Bool
has_fit_names written.True = true
has_fit_names written.False = true
has_fit_names (written.Equal x w) = is_variable_name x && is_value_name w
has_fit_names (written.Unequal x w) = is_variable_name x && is_value_name w
has_fit_names (written.Not g) = has_fit_names g
has_fit_names (written.And g h) = has_fit_names g && has_fit_names h
has_fit_names (written.Or g h) = has_fit_names g && has_fit_names h

-- one deeper, where brackets are needed
abbrev pub deeper_if : Bool → ℕ → ℕ
deeper_if true d = suc d
deeper_if false d = d

-- how many `!` and brackets stand around each other in the tokens of a guard
abbrev pub depth_of : Written → ℕ
depth_of written.True = 0
depth_of written.False = 0
depth_of (written.Equal x w) = 0
depth_of (written.Unequal x w) = 0
depth_of (written.Not g) = suc (deeper_if (is_joined g) (depth_of g))
depth_of (written.And g h) = max (deeper_if (is_or g) (depth_of g)) (deeper_if (is_joined h) (depth_of h))
depth_of (written.Or g h) = max (depth_of g) (deeper_if (is_or h) (depth_of h))

-- Whether no value of the first variable has the name of the second. Where one has it, that name is read as the value.
abbrev pub is_no_value : List Domain → ℕ → ℕ → Bool
is_no_value vars x y = not (is_among (values_at vars x) (variable_name vars y))

-- whether that holds wherever a variable is compared with another
abbrev pub is_clear : List Domain → Test → Bool
is_clear vars True = true
is_clear vars False = true
is_clear vars (Is x v) = true
is_clear vars (IsNot x v) = true
is_clear vars (Same x y) = is_no_value vars x y
is_clear vars (Differ x y) = is_no_value vars x y
is_clear vars (Not t) = is_clear vars t
is_clear vars (And t u) = is_clear vars t && is_clear vars u
is_clear vars (Or t u) = is_clear vars t && is_clear vars u

-- whether a guard can be written: with fit names, not too deep, and no variable in it taken for a value
abbrev pub is_writable_guard : List Domain → Test → Bool
is_writable_guard vars test = has_fit_names (named_guard vars test) && nat_le (depth_of (named_guard vars test)) depth_limit && is_clear vars test

-- the same of an action
abbrev pub is_clear_assignment : List Domain → Assign → Bool
is_clear_assignment vars (Copy x y) = is_no_value vars x y
is_clear_assignment vars _ = true

abbrev pub is_writable_action : List Domain → List Assign → Bool
is_writable_action vars action = list_all has_names (named_action vars action) && list_all (is_clear_assignment vars) action
