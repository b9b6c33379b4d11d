-- The canonical text of a view.
use Rattle.std.specs.Prelude.{ℕ, List, [], ◌∷◌, ◌++◌, map, codes}
use Rattle.xc_expr_text.specs.Printing.{named_guard, named_action, guard_tokens}
use Rattle.xc_expr.specs.Written.{action_tokens}
use Rattle.xc_forms.specs.VariableLines.{var_tokens}
use Rattle.xc_forms.specs.declared.domain.Domain.{Domain}
use Rattle.xc_view.specs.ViewFiles.{PropValue, CommandValue, ViewValue}
use Rattle.xc_view_lines.specs.ViewLines.{Statement, View, Lattice, Var, Init, Prop, Command}

-- the tokens of a statement
abbrev pub spelling : Statement → List (List ℕ)
spelling (View name) = codes "view" ∷ name ∷ []
spelling (Lattice file) = codes "lattice" ∷ file ∷ []
spelling (Var domain) = var_tokens domain
spelling (Init guard) = codes "init" ∷ guard_tokens guard
spelling (Prop name value guard) = codes "prop" ∷ name ∷ value ∷ codes "when" ∷ guard_tokens guard
spelling (Command name value guard action) = codes "command" ∷ name ∷ codes "with" ∷ value ∷ codes "when" ∷ guard_tokens guard ++ codes "do" ∷ action_tokens action

-- the statements of a line and a command over such variables
abbrev pub prop_statement : List Domain → PropValue → Statement
prop_statement vars l = Prop l.name l.value (named_guard vars l.guard)

abbrev pub command_statement : List Domain → CommandValue → Statement
command_statement vars c = Command c.name c.value (named_guard vars c.guard) (named_action vars c.action)

-- the statements of a view: each kind in its order
abbrev pub statements_in : ViewValue → List Statement
statements_in v =
    View v.name ∷ Lattice v.lattice
    ∷ (map Var v.vars ++ Init (named_guard v.vars v.init) ∷ (map (prop_statement v.vars) v.props ++ map (command_statement v.vars) v.commands))

-- the tokens of the lines of its canonical text
abbrev pub view_lines : ViewValue → List (List (List ℕ))
view_lines v = map spelling (statements_in v)
