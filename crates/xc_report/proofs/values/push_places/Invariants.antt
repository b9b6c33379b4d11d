use Rattle.std.proofs.Common.{◌≡◌, ◌++◌, drop}
use Rattle.xc_report.specs.Reports.{places_text}
use Rattle.xc_report.proofs.values.push_places.Given as goal

abbrev pub invariant-loop-i : goal.invariant-loop-i
invariant-loop-i l = l.text ++ places_text (drop l.i l.vars) (drop l.i l.row) ≡ l.fn.text ++ places_text l.vars l.row
