use Rattle.std.proofs.Common.{◌≤◌, length}
use Rattle.xc_base.specs.Lines.{rows_in}
use Rattle.xc_formula_text.specs.Deciding.{tables_in, HasRead}
use Rattle.xc_ctl.specs.Formulas.{signature}
use Rattle.xc_formula_text.proofs.rows.read_rows.Given as goal

abbrev pub invariant-loop-row : goal.invariant-loop-row
invariant-loop-row l = record {
  read : HasRead (signature l.vocabulary) (rows_in l.lines) l.row (tables_in l.formulas);
  few : length l.formulas ≤ 64;
}
