use Rattle.std.proofs.Common.{◌≡◌, map, take}
use Rattle.xc_view.specs.Parts.{prop_value}
use Rattle.xc_view.proofs.copies.copy_props.Given as goal

abbrev pub invariant-loop-line : goal.invariant-loop-line
invariant-loop-line l = map prop_value l.copies ≡ map prop_value (take l.line-index l.lines)
