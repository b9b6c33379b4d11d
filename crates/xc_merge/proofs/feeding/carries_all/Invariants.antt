use Rattle.std.proofs.Common.{◌≡◌}
use Rattle.xc_sigmap.specs.Maps.{value_of as map_of}
use Rattle.xc_merge.specs.Finding.{carries_from}
use Rattle.xc_merge.proofs.feeding.carries_all.Given as goal

abbrev pub invariant-loop-value : goal.invariant-loop-value
invariant-loop-value l = carries_from (map_of l.sigmap) l.domain l.line l.value ≡ carries_from (map_of l.sigmap) l.domain l.line 0
