use Rattle.std.proofs.Common.{sym}
use Rattle.xc_sigmap.specs.Maps.{value_of as map_of}
use Rattle.xc_merge.proofs.Carrying.{line_in_range}
use Rattle.xc_merge.proofs.feeding.is_fed.Goals as goal

pub carries_all-requires : goal.carries_all-requires
carries_all-requires c = line_in_range (map_of c.args.sigmap.now) c.args.number c.args.domain.now.name c.in-Some.line.now c.is_sound.ensures (sym c.in-Some.ensures)
