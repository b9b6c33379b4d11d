use Rattle.std.proofs.Common.{◌≡◌, ℕ, ◌<◌, length, slice_index}
use Rattle.xc_order.specs.Heights.{steps_up}
use Rattle.xc_order.proofs.order.Order.height.Given as goal

abbrev pub invariant-loop-round : goal.invariant-loop-round
invariant-loop-round l = (a : ℕ) → a < length l.self → slice_index l.levels a ≡ steps_up l.self l._round a
