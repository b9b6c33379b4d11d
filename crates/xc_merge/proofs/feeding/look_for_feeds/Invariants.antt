use Rattle.std.proofs.Common.{◌≡◌, drop}
use Rattle.xc_sigmap.specs.Maps.{value_of as map_of}
use Rattle.xc_merge.specs.Finding.{unfed}
use Rattle.xc_merge.proofs.feeding.look_for_feeds.Given as goal

abbrev pub invariant-loop-domain : goal.invariant-loop-domain
invariant-loop-domain l = unfed l.viewpoint (map_of l.sigmap) l.number (drop l.domain-index l.vars) ≡ unfed l.viewpoint (map_of l.sigmap) l.number l.vars
