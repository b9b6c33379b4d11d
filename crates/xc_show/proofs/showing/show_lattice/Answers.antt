use Rattle.xc_lattice.specs.Printed.{lattice_lines}
use Rattle.xc_lattice.specs.LatticeFiles.{LatticeValue}
use Rattle.xc_words.specs.declared.asked.ShowKind.TheVariants as kinds
use Rattle.xc_course.proofs.Working.{works_passed}
use Rattle.xc_show.specs.Showing.{ShowTree, Shows}
use Rattle.xc_show.proofs.showing.show_lattice.Goals as goal

pub returns-in_err-lattice : goal.returns-in_err-lattice
returns-in_err-lattice g c = works_passed (ShowTree kinds.Lattice c.args.name.now) _ _ _ _ _ _ c.from_residual.ensures.1 (c.in_err-lattice.ensures.stops (λ (v : LatticeValue). Shows (lattice_lines v)) _)

pub returns : goal.returns
returns g c = c.in_ok-lattice.ensures.goes_on (λ (v : LatticeValue). Shows (lattice_lines v)) _ _ _ _ (c.print_lattice.ensures (g.S.Shelf.seen c.open_lattice.new.shelf))
