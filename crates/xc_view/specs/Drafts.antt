-- What holds of faultless statements, read one after another.
-- Words for the steps of the code: public clauses do not rest on them.
use Rattle.std.specs.Prelude.{◌≡◌, ◌≤◌, ℕ, nat_le, Bool, true, false, ◌&&◌, ◌||◌, not, List, [], ◌∷◌, length, map, Option, Some, None}
use Rattle.std.specs.List.{list_all}
use Rattle.std.specs.Option.{is_some, is_none}
use Rattle.std.specs.Str.{bytes_eq}
use Rattle.xc_base.specs.Names.{has_twice}
use Rattle.xc_base.specs.Words.{is_name, is_file_word}
use Rattle.xc_expr.specs.Resolving.{resolved, resolved_action, sets_twice}
use Rattle.xc_expr_text.specs.Writable.{has_fit_names, depth_of}
use Rattle.xc_expr.specs.Written.{Written, has_names, depth_limit}
use Rattle.xc_forms.specs.FaultlessLines.{AreSized}
use Rattle.xc_forms.specs.VariableLines.{is_named_var}
use Rattle.xc_forms.specs.declared.domain.Domain.{Domain}
use Rattle.xc_view.specs.ViewFiles.{name_in, lattice_in, vars_of, is_due, prop_names, command_names, line_limit}
use Rattle.xc_view_lines.specs.ViewLines.{Statement, View, Lattice, Var, Init, Prop, Command}
use Rattle.xc_view_lines.specs.Statements.{stated}
use Rattle.xc_view_lines.specs.declared.statement.Statement as code

-- the first is the name, and the second the lattice
abbrev pub begins : List Statement → Bool
begins [] = true
begins (s ∷ []) = is_some (name_in s)
begins (s ∷ t ∷ more) = is_some (name_in s) && is_some (lattice_in t)

-- names are names, and no action sets a variable twice
abbrev pub is_named : Statement → Bool
is_named (View name) = is_name name
is_named (Lattice file) = is_file_word file
is_named (Var domain) = is_named_var domain
is_named (Init guard) = true
is_named (Prop name value guard) = is_name name && is_name value
is_named (Command name value guard action) = is_name name && is_name value && not (sets_twice action)

-- guards and actions are written with fit names, and no guard is too deep
abbrev pub is_guard_written : Written → Bool
is_guard_written guard = has_fit_names guard && nat_le (depth_of guard) depth_limit

abbrev pub is_written : Statement → Bool
is_written (Init guard) = is_guard_written guard
is_written (Prop name value guard) = is_guard_written guard
is_written (Command name value guard action) = is_guard_written guard && list_all has_names action
is_written _ = true

-- the names in a guard and in an action are known
abbrev pub is_known : List Domain → Statement → Bool
is_known vars (Init guard) = not (is_none (resolved vars guard))
is_known vars (Prop name value guard) = not (is_none (resolved vars guard))
is_known vars (Command name value guard action) = not (is_none (resolved vars guard) || is_none (resolved_action vars action))
is_known vars _ = true

-- whether the statement is a command of that name
abbrev pub is_command_of : List ℕ → Statement → Bool
is_command_of name (Command other value guard action) = bytes_eq name other
is_command_of name _ = false

-- whether there is a statement, and it is due
abbrev pub is_placed : List Statement → Option Statement → Bool
is_placed before None = false
is_placed before (Some s) = is_due before s

-- what holds of faultless statements, one after another from the first on
pub record IsFair (statements : List Statement) : Type 0 where
  pub starts : begins statements ≡ true
  pub named : list_all is_named statements ≡ true
  pub written : list_all is_written statements ≡ true
  pub sized : AreSized (vars_of statements)
  pub known : list_all (is_known (vars_of statements)) statements ≡ true
  pub props : length (prop_names statements) ≤ line_limit
  pub commands : length (command_names statements) ≤ line_limit
  pub once : has_twice (command_names statements) ≡ false

-- the statements that those of the code are
abbrev pub all_stated : List code.Statement → List Statement
all_stated statements = map stated statements
