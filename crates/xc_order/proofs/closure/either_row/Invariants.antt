use Rattle.std.proofs.Common.{◌≡◌, ℕ, ◌<◌, false, ◌||◌, length, get_or}
use Rattle.xc_order.proofs.closure.either_row.Given as goal

abbrev pub invariant-loop-b : goal.invariant-loop-b
invariant-loop-b l = (length l.both ≡ 64) × ((k : ℕ) → k < l.b → get_or l.both k false ≡ (get_or l.row k false || get_or l.via k false))
