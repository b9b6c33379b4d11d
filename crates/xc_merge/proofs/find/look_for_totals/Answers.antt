use Rattle.std.proofs.Common.{◌∙◌}
use Rattle.xc_sigmap.specs.Maps.{value_of as map_of}
use Rattle.xc_view.specs.Views.{value_of as view_of}
use Rattle.xc_lattice.specs.Values.{value_of as lattice_of}
use Rattle.xc_merge.proofs.Gathering.{total_stop, total_rest}
use Rattle.xc_merge.proofs.find.look_for_totals.Goals as goal

pub returns-in_err-look_for_feeds : goal.returns-in_err-look_for_feeds
returns-in_err-look_for_feeds c =
    total_stop (map_of c.args.sigmap.now) c.args.number (record { view = view_of c.args.view.now; lattice = lattice_of c.args.lattice.now }) c.uses.result.now c.get.result.now c.requires c.uses.ensures c.get.ensures c.as_slice.result.now (c.as_slice.ensures ∙ c.vars.ensures)
    c.in_err-look_for_feeds.field-0.0 c.in_err-look_for_feeds.ensures c.from_residual.result c.from_residual.ensures.1

pub returns : goal.returns
returns c =
    total_rest (map_of c.args.sigmap.now) c.args.number (record { view = view_of c.args.view.now; lattice = lattice_of c.args.lattice.now }) c.uses.result.now c.get.result.now c.requires c.uses.ensures c.get.ensures c.as_slice.result.now (c.as_slice.ensures ∙ c.vars.ensures)
    c.look_for_tellings.result c.in_ok-look_for_feeds.ensures c.look_for_tellings.ensures
