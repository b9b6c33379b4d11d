use Rattle.std.proofs.Common.{◌||◌, ◌+◌, Bool, drop, sym, ◌∙◌, ap}
use Rattle.xc_base.specs.Names.{has_twice}
use Rattle.xc_sigmap_lines.specs.MapFiles.{carried_names}
use Rattle.xc_sigmap.proofs.Finding.{carried_step}
use Rattle.xc_sigmap.proofs.judge.carries_twice.Goals as goal

pub returns-then-is_carried : goal.returns-then-is_carried
returns-then-is_carried c =
    sym (ap (λ (b : Bool). b || has_twice (carried_names (drop (c.loop-place.place + 1) c.args.pairs.now))) c.if-is_carried.true)
    ∙ carried_step c.args.pairs.now c.loop-place.place c.index-pairs-place.result c.is_carried.result (has_twice (carried_names c.args.pairs.now)) c.loop-place-test.true c.index-pairs-place.is c.is_carried.ensures c.loop-place.invariant

pub loop-place-preserved : goal.loop-place-preserved
loop-place-preserved c =
    sym (ap (λ (b : Bool). b || has_twice (carried_names (drop (c.loop-place.place + 1) c.args.pairs.now))) c.if-is_carried.false)
    ∙ carried_step c.args.pairs.now c.loop-place.place c.index-pairs-place.result c.is_carried.result (has_twice (carried_names c.args.pairs.now)) c.loop-place-test.true c.index-pairs-place.is c.is_carried.ensures c.loop-place.invariant
