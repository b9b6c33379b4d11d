use Rattle.std.proofs.Common.{rules, ◌≡◌}
use Rattle.xc_view.specs.Views.{value_of as view_of}
use Rattle.xc_lattice.specs.Values.{value_of as lattice_of}
use Rattle.xc_stages.proofs.Chaining.{view_halts, viewpoint_halts, viewpoint_on}
use Rattle.xc_stages.proofs.viewpoints.open_viewpoint.Goals as goal

pub returns-in_err-view-clause-stops : goal.returns-in_err-view-clause-stops
returns-in_err-view-clause-stops g c =
    view_halts c.args.name.now (g.S.Shelf.seen c.args.shelf.now) (g.S.Shelf.seen c.open_view.new.shelf) c.from_residual.result c.in_err-view.field-0.0 c.from_residual.ensures.1 c.in_err-view.ensures.stops

pub returns-in_err-lattice-clause-stops : goal.returns-in_err-lattice-clause-stops
returns-in_err-lattice-clause-stops g c =
    let named : c.as_str.result.now ≡ (view_of c.in_ok-view.view).lattice = search rules in
    viewpoint_halts c.args.name.now (g.S.Shelf.seen c.args.shelf.now) (view_of c.in_ok-view.view) c.as_str.result.now (g.S.Shelf.seen c.open_view.new.shelf) (g.S.Shelf.seen c.open_lattice.new.shelf) c.in_ok-view.ensures.goes_on named
    c.from_residual-in_err-lattice.result c.in_err-lattice.field-0.0 c.from_residual-in_err-lattice.ensures.1 c.in_err-lattice.ensures.stops

pub returns-clause-goes_on : goal.returns-clause-goes_on
returns-clause-goes_on g c =
    let named : c.as_str.result.now ≡ (view_of c.in_ok-view.view).lattice = search rules in
    viewpoint_on c.args.name.now (g.S.Shelf.seen c.args.shelf.now) (view_of c.in_ok-view.view) c.as_str.result.now (g.S.Shelf.seen c.open_view.new.shelf) (g.S.Shelf.seen c.open_lattice.new.shelf) c.in_ok-view.ensures.goes_on named
    (lattice_of c.in_ok-lattice.lattice) c.in_ok-lattice.ensures.goes_on
