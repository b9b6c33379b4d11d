use Rattle.std.proofs.Common.{◌≡◌, drop}
use Rattle.xc_lattice.specs.Drafts.{negated_by}
use Rattle.xc_lattice.proofs.gather.negated_by.Given as goal

abbrev pub invariant-loop-s : goal.invariant-loop-s
invariant-loop-s l = negated_by (drop l.s-index l.statements) l.name ≡ negated_by l.statements l.name
