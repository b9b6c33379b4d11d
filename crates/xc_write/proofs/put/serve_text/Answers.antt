use Rattle.std.proofs.Common.{[], ◌∷◌, refl}
use Rattle.xc_course.specs.Items.{Fixed}
use Rattle.xc_course.specs.Trees.{Serve}
use Rattle.xc_course.proofs.Working.{works_passed}
use Rattle.xc_lines.specs.Halts.{passed_status}
use Rattle.xc_write.proofs.Serving.{item_served, item_stopped}
use Rattle.xc_write.proofs.put.serve_text.Goals as goal

pub returns-in_err-put_text : goal.returns-in_err-put_text
returns-in_err-put_text g c = λ now.
    works_passed (Serve (passed_status c.args.passed) (Fixed c.args.text.now ∷ [])) now now _ _ _ _ c.from_residual.ensures.1
    (item_stopped (passed_status c.args.passed) (Fixed c.args.text.now) c.args.text.now _ _ _ c.in_err-put_text.ensures refl now)

pub returns : goal.returns
returns g c = item_served c.args.passed (Fixed c.args.text.now) c.args.text.now _ _ _ c.in_ok-put_text.ensures refl
