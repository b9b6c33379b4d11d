use Rattle.std.proofs.Common.{ℕ, ◌+◌, [], arith, refl, ap, get_or, take, ◌∙◌}
use Rattle.std.proofs.Math.ListN.{set}
use Rattle.std.proofs.lemmas.List.{length-set}
use Rattle.xc_merged.proofs.Seeing.{none_seen, one_seen}
use Rattle.xc_merged.proofs.seen.places_seen.Goals as goal

pub loop-x-init : goal.loop-x-init
loop-x-init c = record { room = refl; known = none_seen c.args.feeds.now c.args.row.now [] }

pub loop-x-preserved : goal.loop-x-preserved
loop-x-preserved c =
    record {
      room = length-set c.loop-x.seen c.loop-x.x _ ∙ c.loop-x.invariant.room;
      known =
          ap (λ (n : ℕ). take (c.loop-x.x + 1) (set c.loop-x.seen c.loop-x.x (get_or c.get-feed.result.now.places n 0))) (c.from-in-loop-x.ensures ∙ ap (λ (n : ℕ). get_or c.args.row.now n 0) c.from.ensures)
          ∙ one_seen c.args.feeds.now c.args.row.now c.loop-x.seen c.loop-x.x c.get-feed.result.now (omega arith) (omega arith) c.get-feed.ensures c.loop-x.invariant.known;
    }
