use Rattle.xc_alg.proofs.AlgebraLaws.{below_of_join, below_of_meet, join_absorbs, join_associative, join_commutes, join_idempotent, join_of_below, meet_absorbs, meet_associative, meet_commutes, meet_idempotent, meet_of_below}
use Rattle.xc_alg.proofs.laws.lattice_laws.Goals as goal

pub returns-clause-meet_commutes : goal.returns-clause-meet_commutes
returns-clause-meet_commutes c = meet_commutes

pub returns-clause-join_commutes : goal.returns-clause-join_commutes
returns-clause-join_commutes c = join_commutes

pub returns-clause-meet_is_associative : goal.returns-clause-meet_is_associative
returns-clause-meet_is_associative c = meet_associative

pub returns-clause-join_is_associative : goal.returns-clause-join_is_associative
returns-clause-join_is_associative c = join_associative

pub returns-clause-meet_is_idempotent : goal.returns-clause-meet_is_idempotent
returns-clause-meet_is_idempotent c = meet_idempotent

pub returns-clause-join_is_idempotent : goal.returns-clause-join_is_idempotent
returns-clause-join_is_idempotent c = join_idempotent

pub returns-clause-meet_absorbs : goal.returns-clause-meet_absorbs
returns-clause-meet_absorbs c = meet_absorbs

pub returns-clause-join_absorbs : goal.returns-clause-join_absorbs
returns-clause-join_absorbs c = join_absorbs

pub returns-clause-below_is_meet : goal.returns-clause-below_is_meet
returns-clause-below_is_meet c = λ o laws a b ha hb. (meet_of_below o laws a b ha hb, below_of_meet o laws a b ha hb)

pub returns-clause-below_is_join : goal.returns-clause-below_is_join
returns-clause-below_is_join c = λ o laws a b ha hb. (join_of_below o laws a b ha hb, below_of_join o laws a b ha hb)
