use Rattle.std.proofs.Common.{◌≡◌, ◌-◌, length}
use Rattle.xc_sigmap.specs.Maps.{value_of as map_of}
use Rattle.xc_merge.specs.Finding.{untold}
use Rattle.xc_merge.proofs.feeding.look_for_tellings.Given as goal

abbrev pub invariant-loop-prop : goal.invariant-loop-prop
invariant-loop-prop l = untold l.viewpoint (map_of l.sigmap) l.number l.prop (length (map_of l.sigmap).props - l.prop) ≡ untold l.viewpoint (map_of l.sigmap) l.number 0 (length (map_of l.sigmap).props)
