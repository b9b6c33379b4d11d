-- Which statement of a viewpoint file a row is, where it is due.
use Rattle.std.specs.Prelude.{ℕ, List, Option, Some, None}
use Rattle.xc_view_lines.specs.ViewLines.{Statement}
use Rattle.xc_view_lines.specs.LineReading.{given, line}
use Rattle.xc_view.specs.ViewFiles.{is_due}

-- the statement, where it is due after the statements before it
abbrev pub placed : List Statement → Option Statement → Option Statement
placed before None = None
placed before (Some s) = given (is_due before s) s

-- the statement that a row with these tokens is after the statements before it
unfoldable pub decide : List Statement → List (List ℕ) → Option Statement
decide before tokens = placed before (line tokens)
