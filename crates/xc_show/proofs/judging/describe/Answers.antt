use Rattle.std.proofs.Common.{[], ◌∷◌, ◌∙◌}
use Rattle.xc_lattice.specs.Values.{value_of as lattice_of}
use Rattle.xc_course.specs.Items.{Described, IsDescription}
use Rattle.xc_course.specs.Trees.{Serve}
use Rattle.xc_course.proofs.Working.{works_passed}
use Rattle.xc_lines.specs.declared.passed.Passed.TheVariants as passed
use Rattle.xc_lines.specs.declared.status.Status.TheVariants.{Done}
use Rattle.xc_write.proofs.Serving.{item_served, item_stopped}
use Rattle.xc_show.proofs.judging.describe.Goals as goal

pub returns-in_err-put_text : goal.returns-in_err-put_text
returns-in_err-put_text g c =
    let is : IsDescription (lattice_of c.args.lattice.now) c.as_bytes.result.now = record { height = c.height.result; is_height = c.height.ensures; is = c.as_bytes.ensures.value ∙ c.in_ok-line.ensures } in
    λ now. works_passed (Serve Done (Described (lattice_of c.args.lattice.now) ∷ [])) now now _ _ _ _ c.from_residual-in_err-put_text.ensures.1
    (item_stopped Done (Described (lattice_of c.args.lattice.now)) c.as_bytes.result.now _ _ _ c.in_err-put_text.ensures is now)

pub returns : goal.returns
returns g c =
    let is : IsDescription (lattice_of c.args.lattice.now) c.as_bytes.result.now = record { height = c.height.result; is_height = c.height.ensures; is = c.as_bytes.ensures.value ∙ c.in_ok-line.ensures } in
    item_served passed.Done (Described (lattice_of c.args.lattice.now)) c.as_bytes.result.now _ _ _ c.in_ok-put_text.ensures is
