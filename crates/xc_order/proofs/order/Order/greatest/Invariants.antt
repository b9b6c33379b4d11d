use Rattle.std.proofs.Common.{◌≡◌, slice_index}
use Rattle.xc_order.specs.Heights.{greatest_level}
use Rattle.xc_order.proofs.order.Order.greatest.Given as goal

abbrev pub invariant-loop-a : goal.invariant-loop-a
invariant-loop-a l = l.level ≡ greatest_level (slice_index l.levels) l.a
