use Rattle.std.proofs.Common.{Ok, take, map}
use Rattle.xc_ctl.specs.declared.formula.Formula.{Formula}
use Rattle.xc_machine.specs.Machines.{merge_of}
use Rattle.xc_write.specs.Writing.{WritesOn}
use Rattle.xc_eval.specs.Checking.{blocks_of}
use Rattle.xc_eval.proofs.report.write_formulas.Given as goal

abbrev pub invariant-loop-i : goal.invariant-loop-i
invariant-loop-i g l = WritesOn (blocks_of l.marked (merge_of l.engine.model.now) 1 (take l.i (map (λ (f : Formula). f.nodes) l.formulas.items))) (g.W.Sink.seen l.initial.out) (g.W.Sink.seen l.out) (Ok tt)
