use Rattle.std.proofs.Common.{◌≡◌, ◌++◌, drop}
use Rattle.xc_sigmap_lines.specs.MapFiles.{stutters_of}
use Rattle.xc_sigmap.proofs.gather.stutters.Given as goal

abbrev pub invariant-loop-s : goal.invariant-loop-s
invariant-loop-s l = l.stutters ++ stutters_of l.names.uses (drop l.s-index l.statements) ≡ stutters_of l.names.uses l.statements
