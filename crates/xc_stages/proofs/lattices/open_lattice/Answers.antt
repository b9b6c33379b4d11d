use Rattle.xc_stages.proofs.Chaining.{lattice_halts, broken_stops, judged_wants, lawful_on}
use Rattle.xc_stages.proofs.lattices.open_lattice.Goals as goal

pub returns-in_err-lattice-clause-stops : goal.returns-in_err-lattice-clause-stops
returns-in_err-lattice-clause-stops g c =
    lattice_halts c.args.name.now (g.S.Shelf.seen c.args.shelf.now) (g.S.Shelf.seen c.judge_lattice.new.shelf) c.from_residual.result c.in_err-lattice.field-0.0 c.from_residual.ensures.1 c.in_err-lattice.ensures.stops

pub returns-in-Lawful-clause-goes_on : goal.returns-in-Lawful-clause-goes_on
returns-in-Lawful-clause-goes_on g c =
    lawful_on c.args.name.now (g.S.Shelf.seen c.args.shelf.now) (g.S.Shelf.seen c.judge_lattice.new.shelf) c.in_ok-lattice.field-0 c.in_ok-lattice.ensures.goes_on c.in-Lawful.lattice c.in-Lawful.is

pub returns-in_err-refused_broken-in-Broken-clause-stops : goal.returns-in_err-refused_broken-in-Broken-clause-stops
returns-in_err-refused_broken-in-Broken-clause-stops g c =
    judged_wants c.args.name.now (g.S.Shelf.seen c.args.shelf.now) (g.S.Shelf.seen c.judge_lattice.new.shelf) c.in_ok-lattice.field-0 c.in_ok-lattice.ensures.goes_on c.from_residual-in_err-refused_broken-in-Broken.result c.from_residual-in_err-refused_broken-in-Broken.ensures.1

pub returns-in_ok-refused_broken-in-Broken-clause-stops : goal.returns-in_ok-refused_broken-in-Broken-clause-stops
returns-in_ok-refused_broken-in-Broken-clause-stops g c =
    broken_stops c.args.name.now (g.S.Shelf.seen c.args.shelf.now) (g.S.Shelf.seen c.judge_lattice.new.shelf) c.in_ok-lattice.field-0 c.in_ok-lattice.ensures.goes_on c.in-Broken.law c.in-Broken.elements c.in_ok-refused_broken-in-Broken.field-0 c.in-Broken.is c.in_ok-refused_broken-in-Broken.ensures
