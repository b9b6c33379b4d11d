use Rattle.std.proofs.Common.{◌≡◌, drop}
use Rattle.xc_lattice.specs.Drafts.{file_name}
use Rattle.xc_lattice.proofs.gather.file_name.Given as goal

abbrev pub invariant-loop-s : goal.invariant-loop-s
invariant-loop-s l = file_name (drop l.s-index l.statements) ≡ file_name l.statements
