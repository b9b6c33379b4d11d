use Rattle.xc_sigmap.specs.Maps.{value_of as map_of}
use Rattle.xc_merged.proofs.Sound.{map_parts}
use Rattle.xc_machine.proofs.initials.is_initial.Goals as goal

pub places_of-places-requires-clause-fit : goal.places_of-places-requires-clause-fit
places_of-places-requires-clause-fit c = rw c.vars-vars.ensures (map_parts (map_of c.args.merged.now.sigmap) c.is_sound.ensures).fit
