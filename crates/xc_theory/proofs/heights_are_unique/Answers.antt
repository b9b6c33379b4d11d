use Rattle.xc_theory.proofs.Chains.{heights_are_unique}
use Rattle.xc_theory.proofs.heights_are_unique.Goals as goal

pub returns : goal.returns
returns c = heights_are_unique
