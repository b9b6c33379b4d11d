use Rattle.xc_base.specs.Lines.{rows_in, row_at}
use Rattle.xc_sigmap.proofs.Reading.{row_is_fair}
use Rattle.xc_sigmap.proofs.rows.read_rows.Goals as goal

pub with-requires : goal.with-requires
with-requires c =
    row_is_fair c.loop-row.draft.statements (row_at (rows_in c.args.lines.now) c.loop-row.row) c.in_ok-s.s c.loop-row.draft.fair c.in_ok-s.ensures
