use Rattle.std.proofs.Common.{◌≡◌, [], drop}
use Rattle.xc_base.specs.Lines.{rows_in}
use Rattle.xc_base.specs.Deciding.{statements_of}
use Rattle.xc_sigmap_lines.specs.MapFiles.{map_format}
use Rattle.xc_sigmap_lines.specs.Deciding.{decide}
use Rattle.xc_sigmap.proofs.rows.read_rows.Given as goal

abbrev pub invariant-loop-row : goal.invariant-loop-row
invariant-loop-row l =
    statements_of map_format decide l.draft.statements (drop l.row (rows_in l.lines)) ≡ statements_of map_format decide [] (rows_in l.lines)
