use Rattle.std.proofs.Common.{◌≡◌, slice_index}
use Rattle.xc_order.specs.Heights.{is_over, level_over}
use Rattle.xc_order.proofs.order.Order.level_over.Given as goal

abbrev pub invariant-loop-b : goal.invariant-loop-b
invariant-loop-b l = l.level ≡ level_over (is_over l.self l.a) (slice_index l.levels) l.b
