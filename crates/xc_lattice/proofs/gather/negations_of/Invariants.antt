use Rattle.std.proofs.Common.{◌≡◌, map, take}
use Rattle.xc_lattice.specs.Drafts.{negation_place}
use Rattle.xc_lattice.proofs.gather.negations_of.Given as goal

abbrev pub invariant-loop-name : goal.invariant-loop-name
invariant-loop-name l = l.negations ≡ map (negation_place l.names l.statements) (take l.name-index l.names)
