use Rattle.std.proofs.Common.{◌≡◌, ℕ, ◌<◌, [], ◌∷◌, length, get_or}
use Rattle.xc_theory.specs.Bounds.{meet_of}
use Rattle.xc_alg.specs.Tables.{entry}
use Rattle.xc_lattice.proofs.tabulate.meet_rows.Given as goal

abbrev pub invariant-loop-a : goal.invariant-loop-a
invariant-loop-a g l =
    (length l.rows ≡ g.row.N) × ((k : ℕ) → k < g.row.N → length (get_or l.rows k []) ≡ g.row.N)
    × ((k b : ℕ) → k < l.a → b < length l.order → entry l.rows k b ≡ meet_of l.order (k ∷ b ∷ []))
