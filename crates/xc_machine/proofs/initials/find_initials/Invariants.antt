use Rattle.std.proofs.Common.{◌-◌}
use Rattle.xc_sigmap.specs.Maps.{value_of as map_of}
use Rattle.std.proofs.Common.{◌≤◌}
use Rattle.xc_merge.specs.Projections.{states_of}
use Rattle.xc_machine.specs.Descent.{IsFound}
use Rattle.xc_merged.specs.Gathered.{merged_of}
use Rattle.xc_machine.proofs.initials.find_initials.Given as goal

abbrev pub decreases-loop-first : goal.decreases-loop-first
decreases-loop-first l = l.states - l.first

abbrev pub invariant-loop-first : goal.invariant-loop-first
invariant-loop-first l = record {
  within : l.first ≤ states_of (map_of l.merged.sigmap);
  found : IsFound (merged_of l.merged) l.first l.found;
}
