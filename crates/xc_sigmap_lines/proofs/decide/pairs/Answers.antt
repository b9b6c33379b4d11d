use Rattle.std.proofs.Common.{sym, ◌∙◌}
use Rattle.xc_sigmap_lines.proofs.Pairs.{pairs_next, pairs_stop}
use Rattle.xc_sigmap_lines.proofs.decide.pairs.Goals as goal

pub returns-in_default : goal.returns-in_default
returns-in_default c =
    pairs_stop c.args.tokens.now c.loop-place.place c.loop-place.pairs c.loop-place-test.true (sym c.in_default.is ∙ c.in_ok-pair.ensures) c.loop-place.invariant

pub loop-place-preserved : goal.loop-place-preserved
loop-place-preserved c =
    pairs_next c.args.tokens.now c.loop-place.place c.loop-place.pairs c.push.new.self c.in-Some.pair c.in_ok-push.ensures.ok (sym c.in-Some.is ∙ c.in_ok-pair.ensures) c.loop-place.invariant
