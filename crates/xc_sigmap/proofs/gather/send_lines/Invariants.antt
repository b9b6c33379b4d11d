use Rattle.std.proofs.Common.{◌≡◌, ◌++◌, drop}
use Rattle.xc_sigmap_lines.specs.MapFiles.{sends_of}
use Rattle.xc_sigmap.proofs.gather.send_lines.Given as goal

abbrev pub invariant-loop-s : goal.invariant-loop-s
invariant-loop-s l = l.sends ++ sends_of l.names.uses l.names.vars (drop l.s-index l.statements) ≡ sends_of l.names.uses l.names.vars l.statements
