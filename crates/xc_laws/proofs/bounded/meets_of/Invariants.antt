use Rattle.std.proofs.Common.{◌≡◌, ℕ, ◌<◌, [], ◌∷◌, length, get_or, None}
use Rattle.xc_theory.specs.Bounds.{first_meet}
use Rattle.xc_laws.proofs.bounded.meets_of.Given as goal

abbrev pub invariant-loop-a : goal.invariant-loop-a
invariant-loop-a l =
    (length l.rows.items ≡ l.a) × ((k b : ℕ) → k < l.a → b < length l.order → get_or (get_or l.rows.items k []) b None ≡ first_meet l.order (k ∷ b ∷ []))
