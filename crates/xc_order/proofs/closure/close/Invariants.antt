use Rattle.xc_order.specs.Closure.{ClosesBelow}
use Rattle.xc_order.proofs.closure.close.Given as goal

abbrev pub invariant-loop-k : goal.invariant-loop-k
invariant-loop-k l = ClosesBelow l.n l.k l.fn.rows l.rows
