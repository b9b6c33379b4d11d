use Rattle.std.proofs.Common.{◌≡◌, ◌∷◌, take}
use Rattle.xc_base.specs.Lines.{texts}
use Rattle.xc_lattice.proofs.printing.push_names.Given as goal

abbrev pub invariant-loop-name : goal.invariant-loop-name
invariant-loop-name l = texts l.tokens ≡ l.head ∷ take l.name-index l.names
