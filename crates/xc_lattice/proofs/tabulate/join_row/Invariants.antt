use Rattle.std.proofs.Common.{◌≡◌, ℕ, ◌<◌, [], ◌∷◌, length, get_or}
use Rattle.xc_theory.specs.Bounds.{join_of}
use Rattle.xc_lattice.proofs.tabulate.join_row.Given as goal

abbrev pub invariant-loop-b : goal.invariant-loop-b
invariant-loop-b g l = (length l.row ≡ g.row.N) × ((k : ℕ) → k < l.b → get_or l.row k 0 ≡ join_of l.order (l.a ∷ k ∷ []))
