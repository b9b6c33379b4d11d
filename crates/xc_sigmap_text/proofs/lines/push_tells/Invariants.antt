use Rattle.std.proofs.Common.{◌≡◌, ◌++◌, drop}
use Rattle.xc_sigmap.specs.Maps.{value_of}
use Rattle.xc_sigmap_text.specs.Printing.{telling}
use Rattle.xc_sigmap_text.specs.Written.{written}
use Rattle.xc_sigmap_text.proofs.lines.push_tells.Given as goal

abbrev pub invariant-loop-line : goal.invariant-loop-line
invariant-loop-line l = l.text ++ written (telling (value_of l.map)) (drop l.line-index l.line-items) ≡ l.fn.text ++ written (telling (value_of l.map)) l.line-items
