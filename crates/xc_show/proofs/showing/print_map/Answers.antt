use Rattle.std.proofs.Common.{◌∙◌}
use Rattle.xc_lines.specs.declared.status.Status.TheVariants.{Done}
use Rattle.xc_write.proofs.Serving.{fixed_as}
use Rattle.xc_show.proofs.showing.print_map.Goals as goal

pub returns : goal.returns
returns g c = fixed_as Done _ _ (c.as_slice.ensures ∙ c.in_ok-text.ensures.text) _ _ _ c.serve_text.ensures
