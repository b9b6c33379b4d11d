use Rattle.std.proofs.Common.{◌≡◌, ℕ, ◌<◌, length, get_or}
use Rattle.xc_lattice.proofs.tabulate.negation_row.Given as goal

abbrev pub invariant-loop-a : goal.invariant-loop-a
invariant-loop-a g l = (length l.row ≡ g.row.N) × ((k : ℕ) → k < l.a → get_or l.row k 0 ≡ get_or l.negations k 0)
