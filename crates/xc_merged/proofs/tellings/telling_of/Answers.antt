use Rattle.std.proofs.Common.{sym, ◌∙◌, ap, map}
use Rattle.xc_lattice.specs.Values.{value_of as lattice_of}
use Rattle.xc_view.specs.Views.{value_of as view_of}
use Rattle.xc_view.specs.Parts.{prop_value}
use Rattle.std.specs.Option.{option_copied}
use Rattle.xc_sigmap.specs.Maps.{value_of as map_of}
use Rattle.xc_merged.proofs.Tabling.{telling_some}
use Rattle.xc_merged.proofs.tellings.telling_of.Goals as goal

pub returns-in_ok-counts-in-Some : goal.returns-in_ok-counts-in-Some
returns-in_ok-counts-in-Some c =
    telling_some (map_of c.args.sigmap.now) c.args.number c.args.prop (record { view = view_of c.args.view.now; lattice = lattice_of c.args.lattice.now }) c.as_slice.result.now c.in-Some.line.now c.fixed.result c.in_ok-counts-in-Some.counts
    (sym c.line_of.ensures ∙ ap option_copied c.in-Some.is) (ap (map prop_value) c.as_slice.ensures ∙ c.props.ensures) c.fixed.ensures c.in_ok-counts-in-Some.ensures
