use Rattle.std.proofs.Common.{◌∙◌, refl}
use Rattle.xc_view.specs.Views.{value_of as view_of}
use Rattle.xc_merge.proofs.Gathering.{line_known, line_unknown}
use Rattle.xc_merge.proofs.lines.look_in_line.Goals as goal

pub returns-in-Some : goal.returns-in-Some
returns-in-Some c =
    line_known c.args.viewpoint.now (view_of c.args.view.now) c.args.line.now c.as_slice.result.now (c.as_slice.ensures ∙ c.vars.ensures)
    c.as_slice-in-Some.result.now c.in-Some.domain.now c.look_for_pairs.result c.as_slice-in-Some.ensures c.in-Some.ensures c.look_for_pairs.ensures

pub returns-in_ok-name-in-None : goal.returns-in_ok-name-in-None
returns-in_ok-name-in-None c =
    rw (line_unknown c.args.viewpoint.now (view_of c.args.view.now) c.args.line.now c.as_slice.result.now (c.as_slice.ensures ∙ c.vars.ensures) c.in-None.ensures, c.in_ok-viewpoint-in-None.ensures, c.in_ok-name-in-None.ensures) refl
