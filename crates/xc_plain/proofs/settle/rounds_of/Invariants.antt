use Rattle.std.proofs.Common.{◌*◌, ◌-◌, length, slice_index}
use Rattle.xc_alg.specs.Products.{product}
use Rattle.xc_fixpoint.proofs.Rounds.{IsRound}
use Rattle.xc_plain.specs.Successors.{IsRow}
use Rattle.xc_plain.specs.Told.{step_by, goes_up}
use Rattle.xc_plain.specs.Settled.{AreIterates}
use Rattle.xc_plain.proofs.settle.rounds_of.Given as goal

abbrev pub invariant-rounds : goal.invariant-rounds
invariant-rounds g l = record {
  iterates : AreIterates (product (g.A.Algebra.parts l.algebra)) (goes_up l.form) (length l.rows) (step_by (product (g.A.Algebra.parts l.algebra)) l.rows l.form (slice_index l.left) (slice_index l.right)) l.iterates;
  row : IsRow (product (g.A.Algebra.parts l.algebra)).size (length l.rows) l.row;
  round : IsRound (product (g.A.Algebra.parts l.algebra)) (goes_up l.form) (length l.rows) (step_by (product (g.A.Algebra.parts l.algebra)) l.rows l.form (slice_index l.left) (slice_index l.right)) (length l.iterates) (slice_index l.row);
}

abbrev pub decreases-rounds : goal.decreases-rounds
decreases-rounds g l = length l.rows * (product (g.A.Algebra.parts l.algebra)).size - length l.iterates
