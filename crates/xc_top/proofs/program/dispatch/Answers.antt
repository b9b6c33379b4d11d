use Rattle.xc_top.proofs.Serving.{generated}
use Rattle.xc_top.proofs.program.dispatch.Goals as goal

pub returns-in-Gen : goal.returns-in-Gen
returns-in-Gen g c = generated _ _ _ _ _ _ _ c.in-Gen.is c.generate.ensures
