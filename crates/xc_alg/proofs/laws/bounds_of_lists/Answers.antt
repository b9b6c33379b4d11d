use Rattle.xc_alg.proofs.AlgebraLaws.{joined_are_joins, joins_are_unique, meets_are_unique, met_are_meets}
use Rattle.xc_alg.proofs.laws.bounds_of_lists.Goals as goal

pub returns-clause-met : goal.returns-clause-met
returns-clause-met c = met_are_meets

pub returns-clause-joined : goal.returns-clause-joined
returns-clause-joined c = joined_are_joins

pub returns-clause-unique_meet : goal.returns-clause-unique_meet
returns-clause-unique_meet c = meets_are_unique

pub returns-clause-unique_join : goal.returns-clause-unique_join
returns-clause-unique_join c = joins_are_unique
