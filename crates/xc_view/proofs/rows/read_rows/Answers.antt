use Rattle.xc_base.specs.Lines.{rows_in, row_at}
use Rattle.xc_view_lines.specs.Statements.{stated}
use Rattle.xc_view.specs.Drafts.{all_stated}
use Rattle.xc_view.proofs.Reading.{row_is_fair}
use Rattle.xc_view.proofs.rows.read_rows.Goals as goal

pub with-requires : goal.with-requires
with-requires c =
    row_is_fair (all_stated c.loop-row.draft.statements) (row_at (rows_in c.args.lines.now) c.loop-row.row) (stated c.in_ok-s.s) c.loop-row.draft.fair c.in_ok-s.ensures
