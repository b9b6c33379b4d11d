use Rattle.std.proofs.Common.{◌≡◌}
use Rattle.xc_order.specs.Closure.{own_rows}
use Rattle.xc_order.proofs.closure.own_rows.Given as goal

abbrev pub invariant-loop-a : goal.invariant-loop-a
invariant-loop-a l = l.rows.items ≡ own_rows l.a
