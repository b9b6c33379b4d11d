use Rattle.std.proofs.Common.{ℕ, ◌<◌, List, length, get_or, ap, ◌∙◌, arith}
use Rattle.std.proofs.lemmas.List.{length-set}
use Rattle.xc_base.specs.Names.{place_of}
use Rattle.xc_forms.specs.declared.domain.Domain.{Domain}
use Rattle.xc_sigmap.specs.Maps.{value_of as map_of}
use Rattle.xc_merge.specs.Projections.{carried_place}
use Rattle.xc_merged.proofs.Sound.{size_few}
use Rattle.xc_merged.proofs.Tabling.{place_written}
use Rattle.xc_merged.proofs.feeds.carried_places.Goals as goal

pub bounds-places-value : goal.bounds-places-value
bounds-places-value c = omega (arith, c.len-count.ensures, c.loop-value-test.true, size_few (map_of c.args.sigmap.now) c.args.line.now.from c.get.result.now c.is_sound.ensures c.requires.from (c.get.ensures ∙ ap (λ (vars : List Domain). get_or vars c.from.result c.get.result.now) c.vars.ensures ∙ ap (λ (n : ℕ). get_or (map_of c.args.sigmap.now).vars n c.get.result.now) c.from.ensures))

pub loop-value-preserved : goal.loop-value-preserved
loop-value-preserved c =
    record {
      room = length-set c.loop-value.places c.loop-value.value c.place_in.result ∙ c.loop-value.invariant.room;
      known =
          let low : c.loop-value.value < length c.loop-value.places = omega (arith, c.loop-value.invariant.room, c.len-count.ensures, c.loop-value-test.true, size_few (map_of c.args.sigmap.now) c.args.line.now.from c.get.result.now c.is_sound.ensures c.requires.from (c.get.ensures ∙ ap (λ (vars : List Domain). get_or vars c.from.result c.get.result.now) c.vars.ensures ∙ ap (λ (n : ℕ). get_or (map_of c.args.sigmap.now).vars n c.get.result.now) c.from.ensures)) in
          place_written c.loop-value.places (carried_place (map_of c.args.sigmap.now) c.args.line.now c.args.domain.now) c.loop-value.value c.place_in.result low
          (c.place_in.ensures ∙ ap (place_of c.args.domain.now.values) c.carried_word-word.ensures) c.loop-value.invariant.known;
    }
