-- Which statements those of the code are, and what a reader of them gives.
-- Words for the steps of the code: public clauses do not rest on them.
use Rattle.std.specs.Prelude.{◌≡◌, map, Result, Ok, Err}
use Rattle.xc_base.specs.declared.fault.FileFault.{FileFault}
use Rattle.xc_base.specs.declared.fault.Stop.{Stop}
use Rattle.xc_base.specs.declared.fault.Stop.TheVariants.{File, Memory}
use Rattle.xc_expr.specs.Written.{written, set}
use Rattle.xc_view_lines.specs.ViewLines as files
use Rattle.xc_view_lines.specs.declared.statement.Statement.{Statement}
use Rattle.xc_view_lines.specs.declared.statement.Statement.TheVariants.{View, Lattice, Var, Init, Prop, Command}

-- the statement of a viewpoint file that a statement of the code is
abbrev pub stated : Statement → files.Statement
stated (View name) = files.View name
stated (Lattice file) = files.Lattice file
stated (Var domain) = files.Var domain
stated (Init guard) = files.Init (written guard)
stated (Prop name value guard) = files.Prop name value (written guard)
stated (Command name value guard action) = files.Command name value (written guard) (map set action)

-- what a reader gives is that, seen as `show` says, where memory is there
abbrev pub GivesAs : {T U : Type 0} → (T → U) → Result T Stop → Result U FileFault → Type 0
GivesAs show (Ok t) outcome = outcome ≡ Ok (show t)
GivesAs show (Err (File fault)) outcome = outcome ≡ Err fault
GivesAs show (Err Memory) outcome = Unit {0}
