-- Viewpoint files: their statements, and what they say.
use Rattle.std.specs.Prelude.{◌≡◌, ℕ, ◌+◌, Bool, true, false, ◌||◌, not, nat_lt, if◌then◌else◌, List, [], ◌∷◌, length, Option, Some, None, unwrap_or}
use Rattle.std.specs.List.{list_any, filter_map}
use Rattle.std.specs.Option.{is_some, is_none}
use Rattle.xc_base.specs.Names.{is_among}
use Rattle.xc_base.specs.Formats.{Format, Excess}
use Rattle.xc_base.specs.declared.fault.Part.{Part}
use Rattle.xc_base.specs.declared.fault.Part.TheVariants as parts
use Rattle.xc_base.specs.declared.fault.Counted.TheVariants as counted
use Rattle.xc_forms.specs.ByKind.{first_of}
use Rattle.xc_forms.specs.Variables.{sizes_of}
use Rattle.xc_forms.specs.VariableLines.{is_var_again, var_excess, line_excess}
use Rattle.xc_expr.specs.Tests as tests
use Rattle.xc_expr.specs.Written.{Written, Assigned}
use Rattle.xc_expr.specs.Resolving.{resolved, resolved_action, sets_twice}
use Rattle.xc_forms.specs.declared.domain.Domain.{Domain}
use Rattle.xc_view_lines.specs.ViewLines.{Statement, View, Lattice, Var, Init, Prop, Command, IsStated}
use Rattle.xc_expr.specs.declared.assign.Assign.{Assign}

-- the name that a statement gives the view, its lattice, and the variable that it declares
abbrev pub name_in : Statement → Option (List ℕ)
name_in (View name) = Some name
name_in _ = None

abbrev pub lattice_in : Statement → Option (List ℕ)
lattice_in (Lattice file) = Some file
lattice_in _ = None

abbrev pub var_in : Statement → Option Domain
var_in (Var domain) = Some domain
var_in _ = None

-- the variables of the statements, in order
abbrev pub vars_of : List Statement → List Domain
vars_of statements = filter_map var_in statements

-- whether a statement stands behind those on variables
abbrev pub is_behind_vars : Statement → Bool
is_behind_vars (View name) = false
is_behind_vars (Lattice file) = false
is_behind_vars (Var domain) = false
is_behind_vars _ = true

-- The view's name comes first, its lattice second, then variables, one at least, and then all else in any order.
abbrev pub is_due_late : List Statement → Statement → Bool
is_due_late before (View name) = false
is_due_late before (Lattice file) = false
is_due_late before (Var domain) = not (list_any is_behind_vars before)
is_due_late before _ = nat_lt 0 (length (vars_of before))

abbrev pub is_due : List Statement → Statement → Bool
is_due [] s = is_some (name_in s)
is_due (r ∷ []) s = is_some (lattice_in s)
is_due (r ∷ t ∷ more) s = is_due_late (r ∷ t ∷ more) s

pub record IsDue (before : List Statement) (tokens : List (List ℕ)) (s : Statement) : Type 0 where
  pub stated : IsStated tokens s
  pub placed : is_due before s ≡ true

abbrev pub is_init : Statement → Bool
is_init (Init guard) = true
is_init _ = false

-- the names of the propositions' lines, and those of the commands
abbrev pub prop_name : Statement → Option (List ℕ)
prop_name (Prop name value guard) = Some name
prop_name _ = None

abbrev pub prop_names : List Statement → List (List ℕ)
prop_names statements = filter_map prop_name statements

abbrev pub command_name : Statement → Option (List ℕ)
command_name (Command name value guard action) = Some name
command_name _ = None

abbrev pub command_names : List Statement → List (List ℕ)
command_names statements = filter_map command_name statements

-- a variable that was declared or has a value twice, a second init, a command that was named or sets a variable twice
abbrev pub is_repeated : List Statement → Statement → Bool
is_repeated before (Var domain) = is_var_again (vars_of before) domain
is_repeated before (Init guard) = list_any is_init before
is_repeated before (Command name value guard action) = is_among (command_names before) name || sets_twice action
is_repeated before _ = false

-- a guard or an action with a name that is not known
abbrev pub is_unknown : List Statement → Statement → Bool
is_unknown before (Init guard) = is_none (resolved (vars_of before) guard)
is_unknown before (Prop name value guard) = is_none (resolved (vars_of before) guard)
is_unknown before (Command name value guard action) = is_none (resolved (vars_of before) guard) || is_none (resolved_action (vars_of before) action)
is_unknown before _ = false

-- how many propositions' lines, and how many commands, a view may have
abbrev pub line_limit : ℕ
line_limit = 256

abbrev pub excess_of : List Statement → Statement → Option Excess
excess_of before (Var domain) = var_excess (sizes_of (vars_of before)) (length domain.values)
excess_of before (Prop name value guard) = line_excess line_limit (length (prop_names before)) (record { what = counted.Props; found = length (prop_names before) + 1 })
excess_of before (Command name value guard action) = line_excess line_limit (length (command_names before)) (record { what = counted.Commands; found = length (command_names before) + 1 })
excess_of before _ = None

-- the name, then the lattice, then a variable, then init
abbrev pub missing_part : List Statement → Option Part
missing_part [] = Some parts.Head
missing_part (s ∷ []) = Some parts.Lattice
missing_part (s ∷ t ∷ more) =
    if not (nat_lt 0 (length (vars_of (s ∷ t ∷ more)))) then Some parts.Var else
    if not (list_any is_init (s ∷ t ∷ more)) then Some parts.Init else None

-- a line of a proposition: where the guard holds the proposition has the value at least
pub record PropValue : Type 0 where
  pub name : List ℕ
  pub value : List ℕ
  pub guard : tests.Test

-- a command: where the guard holds the action is a step of that value
pub record CommandValue : Type 0 where
  pub name : List ℕ
  pub value : List ℕ
  pub guard : tests.Test
  pub action : List Assign

-- What a viewpoint file says. Values of the lattice are words, since the file does not say which there are.
pub record ViewValue : Type 0 where
  pub name : List ℕ
  pub lattice : List ℕ
  pub vars : List Domain
  pub init : tests.Test
  pub props : List PropValue
  pub commands : List CommandValue

-- what a guard and an action stand for, where their names are known
abbrev pub test_in : List Domain → Written → tests.Test
test_in vars guard = unwrap_or (resolved vars guard) tests.False

abbrev pub assigns_in : List Domain → List Assigned → List Assign
assigns_in vars action = unwrap_or (resolved_action vars action) []

-- what a statement says of the initial states, of a proposition and of a command, over these variables
abbrev pub init_in : List Domain → Statement → Option tests.Test
init_in vars (Init guard) = Some (test_in vars guard)
init_in vars _ = None

abbrev pub prop_in : List Domain → Statement → Option PropValue
prop_in vars (Prop name value guard) = Some (record { name = name; value = value; guard = test_in vars guard })
prop_in vars _ = None

abbrev pub command_in : List Domain → Statement → Option CommandValue
command_in vars (Command name value guard action) = Some (record { name = name; value = value; guard = test_in vars guard; action = assigns_in vars action })
command_in vars _ = None

-- what the statements of a file say
abbrev pub view_of : List Statement → ViewValue
view_of statements =
    record {
      name = first_of name_in [] statements;
      lattice = first_of lattice_in [] statements;
      vars = vars_of statements;
      init = first_of (init_in (vars_of statements)) tests.False statements;
      props = filter_map (prop_in (vars_of statements)) statements;
      commands = filter_map (command_in (vars_of statements)) statements;
    }

abbrev pub view_format : Format Statement ViewValue
view_format = record { Due = IsDue; repeated = is_repeated; unknown = is_unknown; count = excess_of; missing = missing_part; Says = λ statements v. v ≡ view_of statements }
