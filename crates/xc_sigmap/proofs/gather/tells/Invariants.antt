use Rattle.std.proofs.Common.{◌≡◌, ◌++◌, drop}
use Rattle.xc_sigmap_lines.specs.MapFiles.{tells_of}
use Rattle.xc_sigmap.proofs.gather.tells.Given as goal

abbrev pub invariant-loop-s : goal.invariant-loop-s
invariant-loop-s l = l.tells ++ tells_of l.names.uses l.names.props (drop l.s-index l.statements) ≡ tells_of l.names.uses l.names.props l.statements
