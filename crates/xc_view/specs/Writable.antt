-- Which views can be written, so that what is printed of them is read again.
use Rattle.std.specs.Prelude.{Bool, ◌&&◌, List}
use Rattle.std.specs.List.{list_all}
use Rattle.xc_expr_text.specs.Writable.{is_writable_guard, is_writable_action}
use Rattle.xc_forms.specs.declared.domain.Domain.{Domain}
use Rattle.xc_view.specs.ViewFiles.{PropValue, CommandValue, ViewValue}

-- whether the guard of a line can be written, and the guard and the action of a command
abbrev pub is_writable_prop : List Domain → PropValue → Bool
is_writable_prop vars l = is_writable_guard vars l.guard

abbrev pub is_writable_command : List Domain → CommandValue → Bool
is_writable_command vars c = is_writable_guard vars c.guard && is_writable_action vars c.action

-- whether all guards and actions of a view can be written
abbrev pub is_writable : ViewValue → Bool
is_writable v = is_writable_guard v.vars v.init && list_all (is_writable_prop v.vars) v.props && list_all (is_writable_command v.vars) v.commands
