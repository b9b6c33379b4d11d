use Rattle.std.proofs.Common.{◌≡◌, map, take}
use Rattle.xc_lattice.specs.Values.{value_of as lattice_of}
use Rattle.xc_merged.specs.Elements.{command_code}
use Rattle.xc_merged.proofs.elements.command_codes.Given as goal

abbrev pub invariant-loop-c : goal.invariant-loop-c
invariant-loop-c l = l.codes ≡ map (command_code (lattice_of l.lattice).names) (take l.c-index l.commands)
