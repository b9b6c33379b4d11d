use Rattle.std.proofs.Common.{◌∙◌}
use Rattle.xc_lines.specs.declared.status.Status.TheVariants.{No}
use Rattle.xc_write.proofs.Serving.{fixed_as}
use Rattle.xc_show.proofs.judging.tell_break.Goals as goal

pub returns : goal.returns
returns g c = fixed_as No _ _ (c.as_bytes.ensures.value ∙ c.in_ok-text.ensures) _ _ _ c.serve_text.ensures
