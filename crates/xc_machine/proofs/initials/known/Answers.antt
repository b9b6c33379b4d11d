use Rattle.std.proofs.Common.{ℕ, [], nat_lt, arith, refl, ap, ◌∙◌}
use Rattle.std.proofs.lemmas.List.{length-set}
use Rattle.xc_machine.proofs.Descending.{none_known, one_known}
use Rattle.xc_machine.proofs.initials.known.Goals as goal

pub loop-x-init : goal.loop-x-init
loop-x-init c = record { room = refl; so_far = none_known c.args.feeds.now [] c.args.depth }

pub loop-x-preserved : goal.loop-x-preserved
loop-x-preserved c =
    record {
      room = length-set c.loop-x.known c.loop-x.x _ ∙ c.loop-x.invariant.room;
      so_far =
          one_known c.args.feeds.now c.loop-x.known c.args.depth c.loop-x.x c.get.result.now _ (omega arith) (omega arith) c.get.ensures
          (ap (λ (n : ℕ). nat_lt n c.args.depth) c.from.ensures) c.loop-x.invariant.so_far;
    }
