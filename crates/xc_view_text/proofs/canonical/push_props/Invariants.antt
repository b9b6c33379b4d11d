use Rattle.std.proofs.Common.{◌≡◌, ◌++◌, map, drop}
use Rattle.xc_view.specs.Parts.{prop_value}
use Rattle.xc_view.specs.Printing.{prop_statement}
use Rattle.xc_view_text.specs.Spelled.{written}
use Rattle.xc_view_text.proofs.canonical.push_props.Given as goal

abbrev pub invariant-loop-line : goal.invariant-loop-line
invariant-loop-line l = l.text ++ written (prop_statement l.vars) (map prop_value (drop l.line-index l.lines)) ≡ l.fn.text ++ written (prop_statement l.vars) (map prop_value l.lines)
