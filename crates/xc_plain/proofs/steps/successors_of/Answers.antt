use Rattle.std.proofs.Common.{◌≡◌, ◌+◌, ◌-◌, ◌<◌, refl, length, arith}
use Rattle.xc_alg.specs.Products.{product}
use Rattle.xc_plain.proofs.Keeping.{no_successors, joined_none, successors_pushed, joined_pushed}
use Rattle.xc_plain.proofs.steps.successors_of.Goals as goal

pub loop-state-init : goal.loop-state-init
loop-state-init g c = rw c.new-few.ensures (record { safe = no_successors _ _; told = joined_none (product (g.A.Algebra.parts c.args.algebra.now)) _ _ c.args.row.now refl })

pub loop-state-preserved : goal.loop-state-preserved
loop-state-preserved g c =
    let next : c.loop-state.state ≡ c.loop-state.state - 1 + 1 = omega (arith, c.loop-state-test.true) in
    let low : c.loop-state.state - 1 < length c.args.row.now = omega (arith, next, c.loop-state.auto.state) in
    record {
      safe = successors_pushed _ _ _ _ _ _ _ c.loop-state.invariant.safe low (c.requires.row.range _ low) c.in_ok-push_successor.ensures.left c.in_ok-push_successor.ensures.pushed;
      told = joined_pushed (product (g.A.Algebra.parts c.args.algebra.now)) (g.met.A.Algebra.laws c.args.algebra.now) _ _ _ _ _ c.args.row.now _ _ next c.bottom-bottom.ensures c.requires.row low refl c.loop-state.invariant.told
          c.in_ok-push_successor.ensures.left c.in_ok-push_successor.ensures.pushed;
    }
