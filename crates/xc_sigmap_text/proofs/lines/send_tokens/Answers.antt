use Rattle.std.proofs.Common.{refl, ◌∙◌}
use Rattle.xc_base.specs.Lines.{texts}
use Rattle.xc_sigmap.specs.Maps.{value_of}
use Rattle.xc_sigmap_text.proofs.Printing.{source_pairs, send_is, send_tail, source_at, use_from}
use Rattle.xc_sigmap_text.proofs.lines.send_tokens.Goals as goal

pub push_source-requires : goal.push_source-requires
push_source-requires c =
    let at = source_at c.args.map.now.vars c.vars.result.now c.args.line.now.from c.from.result c.get-source.result.now c.get-source.ensures c.vars.ensures c.from.ensures in
    source_pairs (value_of c.args.map.now) c.args.line.now c.get-source.result.now c.requires at c.get-source.result.now.values c.as_slice-2.result.now refl c.as_slice-2.ensures

pub returns : goal.returns
returns c =
    let at = source_at c.args.map.now.vars c.vars.result.now c.args.line.now.from c.from.result c.get-source.result.now c.get-source.ensures c.vars.ensures c.from.ensures in
    send_is (value_of c.args.map.now) c.args.line.now c.get-source.result.now c.requires at (texts c.in_ok-tokens.tokens) (texts c.push_source.new.tokens) c.use_name-viewpoint.result.now
    c.in_ok-tokens.ensures (use_from (value_of c.args.map.now) c.as_slice.result.now c.args.line.now.viewpoint c.use_name-viewpoint.result.now c.use_name-viewpoint.ensures (c.as_slice.ensures ∙ c.uses.ensures))
    (send_tail c.as_slice-2.result.now c.args.line.now.pairs (texts c.in_ok-tokens.tokens) (texts c.push_source.new.tokens) c.get-source.result.now c.in_ok-push_source.ensures c.as_slice-2.ensures)
