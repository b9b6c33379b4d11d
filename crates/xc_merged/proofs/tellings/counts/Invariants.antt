use Rattle.std.proofs.Common.{◌≡◌, map, take}
use Rattle.xc_merged.specs.Elements.{counts_of}
use Rattle.xc_merged.proofs.tellings.counts.Given as goal

abbrev pub invariant-loop-line : goal.invariant-loop-line
invariant-loop-line l = l.row ≡ map (counts_of l.told) (take l.line-index l.lines)
