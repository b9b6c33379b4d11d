use Rattle.std.proofs.Common.{map}
use Rattle.xc_sigmap.specs.Maps.{value_of as map_of}
use Rattle.xc_merge.specs.Merging.{viewpoint_of}
use Rattle.xc_stages.proofs.Merging.{merge_stops}
use Rattle.xc_stages.proofs.machines.merge.Goals as goal

pub returns-in_ok-refused_merge-in-Err-clause-stops : goal.returns-in_ok-refused_merge-in-Err-clause-stops
returns-in_ok-refused_merge-in-Err-clause-stops c =
    merge_stops (map_of c.args.sigmap) (map viewpoint_of c.args.views) c.in-Err.fault c.in_ok-refused_merge-in-Err.field-0 c.in-Err.ensures.err c.in_ok-refused_merge-in-Err.ensures
