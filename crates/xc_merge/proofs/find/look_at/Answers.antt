use Rattle.xc_sigmap.specs.Maps.{value_of as map_of}
use Rattle.xc_view.specs.Views.{value_of as view_of}
use Rattle.xc_lattice.specs.Values.{value_of as lattice_of}
use Rattle.xc_merge.proofs.Gathering.{viewpoint_stop, viewpoint_told, viewpoint_rest}
use Rattle.xc_merge.proofs.find.look_at.Goals as goal

pub returns-in_err-look_for_names : goal.returns-in_err-look_for_names
returns-in_err-look_for_names c =
    viewpoint_stop (map_of c.args.sigmap.now) c.args.number (record { view = view_of c.args.view.now; lattice = lattice_of c.args.lattice.now }) c.in_err-look_for_names.field-0.0 c.in_err-look_for_names.ensures c.from_residual.result c.from_residual.ensures.1

pub returns-in_err-look_for_tells : goal.returns-in_err-look_for_tells
returns-in_err-look_for_tells c =
    viewpoint_told (map_of c.args.sigmap.now) c.args.number (record { view = view_of c.args.view.now; lattice = lattice_of c.args.lattice.now }) c.in_err-look_for_tells.field-0.0 c.in_ok-look_for_names.ensures c.in_err-look_for_tells.ensures c.from_residual-in_err-look_for_tells.result c.from_residual-in_err-look_for_tells.ensures.1

pub returns : goal.returns
returns c =
    viewpoint_rest (map_of c.args.sigmap.now) c.args.number (record { view = view_of c.args.view.now; lattice = lattice_of c.args.lattice.now }) c.look_for_totals.result c.in_ok-look_for_names.ensures c.in_ok-look_for_tells.ensures c.look_for_totals.ensures
