use Rattle.xc_alg.proofs.AlgebraLaws.{join_distributes}
use Rattle.xc_alg.proofs.laws.distributive_laws.Goals as goal

pub returns-clause-meet_distributes : goal.returns-clause-meet_distributes
returns-clause-meet_distributes c = λ o laws. laws.distributive

pub returns-clause-join_distributes : goal.returns-clause-join_distributes
returns-clause-join_distributes c = join_distributes
