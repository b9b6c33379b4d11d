-- The lines of one kind in a canonical text.
-- Words for the steps of the code: public clauses do not rest on them.
use Rattle.std.specs.Prelude.{ℕ, List}
use Rattle.xc_forms.specs.PrintedLines as forms
use Rattle.xc_sigmap_lines.specs.declared.statement.Statement.{Statement}
use Rattle.xc_sigmap_lines.specs.MapFiles.{spelling}

-- what the statements that `say` makes of items are as text
abbrev pub written : {X : Type 0} → (X → Statement) → List X → List ℕ
written say xs = forms.written spelling say xs
