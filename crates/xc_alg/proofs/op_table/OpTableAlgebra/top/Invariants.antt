use Rattle.std.proofs.Common.{◌≡◌, ◌<◌, ℕ, true}
use Rattle.xc_theory.specs.Lattices.{below}
use Rattle.xc_alg.specs.OpTables.{lattice_of}
use Rattle.xc_alg.proofs.op_table.OpTableAlgebra.top.Given as goal

abbrev pub invariant-loop-a : goal.invariant-loop-a
invariant-loop-a g l = record { in_range : l.greatest < l.self.n; above : (k : ℕ) → k < l.a → below (lattice_of l.self) k l.greatest ≡ true }
