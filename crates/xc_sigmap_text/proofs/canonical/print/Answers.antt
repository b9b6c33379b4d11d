use Rattle.std.proofs.Common.{◌∙◌}
use Rattle.xc_sigmap.specs.Maps.{value_of}
use Rattle.xc_sigmap_text.proofs.Printing.{whole_printed}
use Rattle.xc_sigmap_text.proofs.Short.{text_is_sound}
use Rattle.xc_sigmap_text.proofs.Rereading.{text_reads_again}
use Rattle.xc_sigmap_text.proofs.canonical.print.Goals as goal

pub returns : goal.returns
returns c =
    let whole =
    whole_printed (value_of c.args.map.now) c.name.result.now c.as_slice.result.now c.as_slice-2.result.now c.as_slice-3.result.now
    c.new-text.result c.push_name.new.text c.push_uses.new.text c.push_vars.new.text c.push_props.new.text c.push_sends.new.text c.push_tells.new.text c.push_stutters.new.text
    c.name.ensures (c.as_slice.ensures ∙ c.uses.ensures) (c.as_slice-2.ensures ∙ c.vars.ensures) (c.as_slice-3.ensures ∙ c.props.ensures)
    c.new-text.ensures c.in_ok-push_name.ensures c.in_ok-push_uses.ensures c.in_ok-push_vars.ensures c.in_ok-push_props.ensures c.in_ok-push_sends.ensures c.in_ok-push_tells.ensures c.in_ok-push_stutters.ensures in
    record { text = whole; again = text_reads_again (value_of c.args.map.now) c.push_stutters.new.text c.is_sound.ensures whole; sound = text_is_sound (value_of c.args.map.now) c.is_sound.ensures c.push_stutters.new.text whole }
