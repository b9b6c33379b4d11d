use Rattle.xc_alg.proofs.AlgebraLaws.{negation_of_bottom, negation_of_join, negation_of_meet, negation_of_top}
use Rattle.xc_alg.proofs.laws.negation_laws.Goals as goal

pub returns-clause-involution : goal.returns-clause-involution
returns-clause-involution c = λ o laws. laws.involution

pub returns-clause-of_meet : goal.returns-clause-of_meet
returns-clause-of_meet c = negation_of_meet

pub returns-clause-of_join : goal.returns-clause-of_join
returns-clause-of_join c = negation_of_join

pub returns-clause-of_bottom : goal.returns-clause-of_bottom
returns-clause-of_bottom c = negation_of_bottom

pub returns-clause-of_top : goal.returns-clause-of_top
returns-clause-of_top c = negation_of_top
