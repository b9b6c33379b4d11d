use Rattle.std.proofs.Common.{◌≡◌, ℕ, ◌<◌, [], ◌∷◌, length, get_or, None}
use Rattle.xc_theory.specs.Bounds.{first_meet}
use Rattle.xc_laws.proofs.bounded.meets_with.Given as goal

abbrev pub invariant-loop-b : goal.invariant-loop-b
invariant-loop-b l = (length l.row ≡ 64) × ((k : ℕ) → k < l.b → get_or l.row k None ≡ first_meet l.order (l.a ∷ k ∷ []))
