use Rattle.std.proofs.Common.{refl}
use Rattle.xc_report.proofs.Rows.{place_pushed}
use Rattle.xc_report.proofs.values.push_places.Goals as goal

pub loop-i-preserved : goal.loop-i-preserved
loop-i-preserved c = place_pushed _ _ _ _ _ _ _ _ _ c.requires c.len-i-end.ensures c.loop-i-test.true c.get.ensures refl c.loop-i.invariant c.in_ok-push_place.ensures
