use Rattle.std.proofs.Common.{◌∙◌}
use Rattle.xc_sigmap.specs.Maps.{value_of}
use Rattle.xc_sigmap_text.proofs.Printing.{send_here}
use Rattle.xc_sigmap_text.proofs.lines.push_sends.Goals as goal

pub push_send-requires : goal.push_send-requires
push_send-requires c =
    send_here (value_of c.args.map.now) c.as_slice-line-items.result.now c.loop-line.line-index c.line-item.result c.is_sound.ensures (c.as_slice-line-items.ensures ∙ c.sends.ensures) c.loop-line-test.true c.line-item.is
