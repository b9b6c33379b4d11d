use Rattle.std.proofs.Common.{◌≡◌, ◌<◌, ◌++◌}
use Rattle.xc_base.specs.Lines.{texts}
use Rattle.xc_ctl.specs.Resolving.{total_from}
use Rattle.xc_formula_text.specs.Printing.{digits_from}
use Rattle.xc_formula_text.proofs.printer.push_digits.Given as goal

abbrev pub invariant-loop-place : goal.invariant-loop-place
invariant-loop-place l = record {
  low : l.rest < total_from l.parts l.place;
  known : texts l.tokens ++ digits_from l.parts l.place l.rest ≡ texts l.fn.tokens ++ digits_from l.parts 0 l.code;
}
