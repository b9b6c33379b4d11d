use Rattle.std.proofs.Common.{◌∙◌}
use Rattle.xc_sigmap.specs.Maps.{value_of}
use Rattle.xc_sigmap_text.proofs.Printing.{tell_here}
use Rattle.xc_sigmap_text.proofs.lines.push_tells.Goals as goal

pub push_tell-requires : goal.push_tell-requires
push_tell-requires c =
    tell_here (value_of c.args.map.now) c.as_slice-line-items.result.now c.loop-line.line-index c.line-item.result c.is_sound.ensures (c.as_slice-line-items.ensures ∙ c.tells.ensures) c.loop-line-test.true c.line-item.is
