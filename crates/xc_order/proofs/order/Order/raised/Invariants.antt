use Rattle.std.proofs.Common.{◌≡◌, ℕ, ◌<◌, length, slice_index}
use Rattle.xc_order.specs.Heights.{is_over, level_over}
use Rattle.xc_order.proofs.order.Order.raised.Given as goal

abbrev pub invariant-loop-a : goal.invariant-loop-a
invariant-loop-a l = (length l.raised ≡ 64) × ((k : ℕ) → k < l.a → slice_index l.raised k ≡ level_over (is_over l.self k) (slice_index l.levels) (length l.self))
