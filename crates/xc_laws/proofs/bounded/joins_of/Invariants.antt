use Rattle.std.proofs.Common.{◌≡◌, ℕ, ◌<◌, [], ◌∷◌, length, get_or, None}
use Rattle.xc_theory.specs.Bounds.{first_join}
use Rattle.xc_laws.proofs.bounded.joins_of.Given as goal

abbrev pub invariant-loop-a : goal.invariant-loop-a
invariant-loop-a l =
    (length l.rows.items ≡ l.a) × ((k b : ℕ) → k < l.a → b < length l.order → get_or (get_or l.rows.items k []) b None ≡ first_join l.order (k ∷ b ∷ []))
