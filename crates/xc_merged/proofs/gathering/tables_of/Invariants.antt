use Rattle.xc_merged.specs.Gathering.{AreTabled}
use Rattle.xc_merged.proofs.gathering.tables_of.Given as goal

abbrev pub invariant-loop-v : goal.invariant-loop-v
invariant-loop-v l = AreTabled l.sigmap l.views l.v l.tables
