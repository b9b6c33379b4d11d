use Rattle.std.proofs.Common.{◌∙◌}
use Rattle.xc_sigmap.specs.Maps.{value_of as map_of}
use Rattle.xc_view.specs.Views.{value_of as view_of}
use Rattle.xc_lattice.specs.Values.{value_of as lattice_of}
use Rattle.xc_merge.proofs.Gathering.{told_stop, told_rest}
use Rattle.xc_merge.proofs.find.look_for_tells.Goals as goal

pub returns-in_err-look_in_tells : goal.returns-in_err-look_in_tells
returns-in_err-look_in_tells c =
    told_stop (map_of c.args.sigmap.now) c.args.number (record { view = view_of c.args.view.now; lattice = lattice_of c.args.lattice.now }) c.uses.result.now c.get.result.now c.requires c.uses.ensures c.get.ensures c.as_slice-tells.result.now (c.as_slice-tells.ensures ∙ c.tells.ensures)
    c.in_err-look_in_tells.field-0.0 c.in_err-look_in_tells.ensures c.from_residual.result c.from_residual.ensures.1

pub returns : goal.returns
returns c =
    told_rest (map_of c.args.sigmap.now) c.args.number (record { view = view_of c.args.view.now; lattice = lattice_of c.args.lattice.now }) c.uses.result.now c.get.result.now c.requires c.uses.ensures c.get.ensures c.as_slice-tells.result.now (c.as_slice-tells.ensures ∙ c.tells.ensures)
    c.names.result.now c.as_slice-stutters.result.now c.look_in_stutters.result c.names.ensures.names (c.as_slice-stutters.ensures ∙ c.stutters.ensures) c.in_ok-look_in_tells.ensures c.look_in_stutters.ensures
