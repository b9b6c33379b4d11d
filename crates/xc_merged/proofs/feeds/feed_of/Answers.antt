use Rattle.std.proofs.Common.{sym, ◌∙◌, ap}
use Rattle.std.specs.Option.{option_copied}
use Rattle.xc_sigmap.specs.Maps.{value_of as map_of}
use Rattle.xc_merged.proofs.Tabling.{line_in, feed_some}
use Rattle.xc_merged.proofs.feeds.feed_of.Goals as goal

pub carried_places-requires-clause-from : goal.carried_places-requires-clause-from
carried_places-requires-clause-from c = line_in (map_of c.args.sigmap.now) c.args.number c.args.domain.now.name c.in-Some.line.now c.is_sound.ensures (sym c.line_for.ensures ∙ ap option_copied c.in-Some.is)

pub returns-in-Some : goal.returns-in-Some
returns-in-Some c =
    feed_some (map_of c.args.sigmap.now) c.args.number c.args.domain.now c.in-Some.line.now c.carried_places.result (sym c.line_for.ensures ∙ ap option_copied c.in-Some.is)
    (line_in (map_of c.args.sigmap.now) c.args.number c.args.domain.now.name c.in-Some.line.now c.is_sound.ensures (sym c.line_for.ensures ∙ ap option_copied c.in-Some.is)) c.requires.fed c.carried_places.ensures
