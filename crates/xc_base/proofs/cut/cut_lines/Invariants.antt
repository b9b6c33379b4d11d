use Rattle.std.proofs.Common.{◌≡◌, ◌+◌, ◌++◌, ◌-◌, ◌≤◌, length, drop}
use Rattle.xc_base.specs.Text.{lines_of, rows_from, rows_of, first_fault_from}
use Rattle.xc_base.proofs.cut.cut_lines.Given as goal

abbrev pub invariant-loop-place : goal.invariant-loop-place
invariant-loop-place l = record {
  numbered : l.number ≤ l.place;
  rows : l.rows ++ rows_from (l.number + 1) l.place (lines_of (drop l.place l.bytes)) ≡ rows_of l.bytes;
  faultless : first_fault_from (l.number + 1) (lines_of (drop l.place l.bytes)) ≡ first_fault_from 1 (lines_of l.bytes);
}

abbrev pub decreases-loop-place : goal.decreases-loop-place
decreases-loop-place l = length l.bytes - l.place
