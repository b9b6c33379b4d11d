use Rattle.std.proofs.Common.{◌≡◌, [], drop}
use Rattle.xc_base.specs.Lines.{rows_in}
use Rattle.xc_base.specs.Deciding.{statements_of}
use Rattle.xc_view.specs.ViewFiles.{view_format}
use Rattle.xc_view.specs.Deciding.{decide}
use Rattle.xc_view.specs.Drafts.{all_stated}
use Rattle.xc_view.proofs.rows.read_rows.Given as goal

abbrev pub invariant-loop-row : goal.invariant-loop-row
invariant-loop-row l =
    statements_of view_format decide (all_stated l.draft.statements) (drop l.row (rows_in l.lines)) ≡ statements_of view_format decide [] (rows_in l.lines)
