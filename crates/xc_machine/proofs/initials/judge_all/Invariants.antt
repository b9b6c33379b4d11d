use Rattle.xc_machine.specs.Descent.{AreJudged}
use Rattle.xc_merged.specs.Gathered.{merged_of}
use Rattle.xc_machine.proofs.initials.judge_all.Given as goal

abbrev pub invariant-loop-v : goal.invariant-loop-v
invariant-loop-v l = AreJudged (merged_of l.merged) l.depth l.row l.v l.all
