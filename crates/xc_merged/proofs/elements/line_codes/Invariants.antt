use Rattle.std.proofs.Common.{◌≡◌, map, take}
use Rattle.xc_lattice.specs.Values.{value_of as lattice_of}
use Rattle.xc_merged.specs.Elements.{line_code}
use Rattle.xc_merged.proofs.elements.line_codes.Given as goal

abbrev pub invariant-loop-l : goal.invariant-loop-l
invariant-loop-l l = l.codes ≡ map (line_code (lattice_of l.lattice).names) (take l.l-index l.lines)
