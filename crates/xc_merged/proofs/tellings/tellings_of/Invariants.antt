use Rattle.xc_lattice.specs.Values.{value_of as lattice_of}
use Rattle.xc_view.specs.Views.{value_of as view_of}
use Rattle.xc_sigmap.specs.Maps.{value_of as map_of}
use Rattle.xc_merged.specs.Tabled.{AreTellings}
use Rattle.xc_merged.proofs.tellings.tellings_of.Given as goal

abbrev pub invariant-loop-prop : goal.invariant-loop-prop
invariant-loop-prop l = AreTellings (map_of l.sigmap) l.number (record { view = view_of l.view; lattice = lattice_of l.lattice }) l.prop l.tellings
