use Rattle.std.proofs.Common.{◌≡◌, take, map}
use Rattle.xc_sigmap_lines.specs.MapFiles.{carry}
use Rattle.xc_sigmap.proofs.gather.carries.Given as goal

abbrev pub invariant-loop-pair : goal.invariant-loop-pair
invariant-loop-pair l = l.carries ≡ map (carry l.values) (take l.pair-index l.pairs)
