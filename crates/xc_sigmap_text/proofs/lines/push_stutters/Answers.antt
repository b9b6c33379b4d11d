use Rattle.std.proofs.Common.{◌∙◌}
use Rattle.xc_sigmap.specs.Maps.{value_of}
use Rattle.xc_sigmap_text.proofs.Printing.{stutter_here}
use Rattle.xc_sigmap_text.proofs.lines.push_stutters.Goals as goal

pub push_stutter-requires : goal.push_stutter-requires
push_stutter-requires c =
    stutter_here (value_of c.args.map.now) c.as_slice-line-items.result.now c.loop-line.line-index c.line-item.result c.is_sound.ensures (c.as_slice-line-items.ensures ∙ c.stutters.ensures) c.loop-line-test.true c.line-item.is
