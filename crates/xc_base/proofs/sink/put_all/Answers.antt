use Rattle.std.proofs.Common.{arith, ◌∙◌}
use Rattle.xc_base.proofs.Writing.{written_more}
use Rattle.xc_base.proofs.sink.put_all.Goals as goal

pub loop-taken-preserved : goal.loop-taken-preserved
loop-taken-preserved g c = record {
  within = omega (arith, c.in_ok-taken.ensures.within);
  written = written_more _ _ _ _ _ _ c.loop-taken.invariant.written c.in_ok-taken.ensures.written;
  calm = record {
    faults = c.in_ok-taken.ensures.calm.faults ∙ c.loop-taken.invariant.calm.faults;
    wants = c.in_ok-taken.ensures.calm.wants ∙ c.loop-taken.invariant.calm.wants;
  };
}
