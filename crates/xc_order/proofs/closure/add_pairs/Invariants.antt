use Rattle.xc_order.specs.Closure.{HasPairs}
use Rattle.xc_order.proofs.closure.add_pairs.Given as goal

abbrev pub invariant-loop-p : goal.invariant-loop-p
invariant-loop-p l = HasPairs l.n l.pairs l.p-index l.rows
