use Rattle.std.proofs.Common.{arith}
use Rattle.xc_laws.proofs.Breaking.{break_found, break_none}
use Rattle.xc_laws.proofs.bounded.Bounded.first_law.Goals as goal

pub returns-in-Some : goal.returns-in-Some
returns-in-Some c = break_found _ c.loop-law.law-index _ _ c.loop-law-test.true c.loop-law.invariant c.in-Some.ensures

pub returns : goal.returns
returns c = break_none _ c.loop-law.law-index (omega arith) c.loop-law.invariant
