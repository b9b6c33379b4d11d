use Rattle.std.proofs.Common.{◌≡◌, drop}
use Rattle.xc_merge.specs.Finding.{stuttered}
use Rattle.xc_merge.proofs.lines.look_in_stutters.Given as goal

abbrev pub invariant-loop-line : goal.invariant-loop-line
invariant-loop-line l = stuttered l.viewpoint l.number l.names (drop l.line-index l.lines) ≡ stuttered l.viewpoint l.number l.names l.lines
