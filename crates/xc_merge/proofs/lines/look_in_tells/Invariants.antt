use Rattle.std.proofs.Common.{◌≡◌, drop}
use Rattle.xc_view.specs.Views.{value_of as view_of}
use Rattle.xc_lattice.specs.Values.{value_of as lattice_of}
use Rattle.xc_merge.specs.Finding.{told}
use Rattle.xc_merge.proofs.lines.look_in_tells.Given as goal

abbrev pub invariant-loop-line : goal.invariant-loop-line
invariant-loop-line l = told l.viewpoint l.number (record { view = view_of l.view; lattice = lattice_of l.lattice }) (drop l.line-index l.lines) ≡ told l.viewpoint l.number (record { view = view_of l.view; lattice = lattice_of l.lattice }) l.lines
