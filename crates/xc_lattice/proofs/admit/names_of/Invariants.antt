use Rattle.std.proofs.Common.{◌≡◌, map, take}
use Rattle.xc_base.specs.Names.{name_at}
use Rattle.xc_lattice.proofs.admit.names_of.Given as goal

abbrev pub invariant-loop-a : goal.invariant-loop-a
invariant-loop-a l = l.named ≡ map (name_at l.names) (take l.a-index l.elements)
