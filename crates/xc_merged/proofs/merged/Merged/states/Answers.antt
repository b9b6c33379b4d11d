use Rattle.xc_sigmap.specs.Maps.{value_of as map_of}
use Rattle.xc_merged.proofs.Sound.{some_states}
use Rattle.xc_merged.proofs.merged.Merged.states.Goals as goal

pub returns-clause-some : goal.returns-clause-some
returns-clause-some c = rw (c.state_count.ensures, c.vars.ensures) (some_states (map_of c.args.self.now.sigmap) c.is_sound.ensures)
