use Rattle.std.proofs.Common.{◌≡◌, map, take}
use Rattle.xc_merged.specs.Gathering.{names_in}
use Rattle.xc_merged.proofs.gathering.names_of.Given as goal

abbrev pub invariant-loop-pair : goal.invariant-loop-pair
invariant-loop-pair l = l.list ≡ map names_in (take l.pair-index l.views)
