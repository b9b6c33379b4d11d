use Rattle.xc_alg.proofs.AlgebraLaws.{join_monotone, join_with_bottom, join_with_top, meet_monotone, meet_with_bottom, meet_with_top}
use Rattle.xc_alg.proofs.laws.monotone_laws.Goals as goal

pub returns-clause-meet_is_monotone : goal.returns-clause-meet_is_monotone
returns-clause-meet_is_monotone c = meet_monotone

pub returns-clause-join_is_monotone : goal.returns-clause-join_is_monotone
returns-clause-join_is_monotone c = join_monotone

pub returns-clause-meet_with_top : goal.returns-clause-meet_with_top
returns-clause-meet_with_top c = meet_with_top

pub returns-clause-join_with_bottom : goal.returns-clause-join_with_bottom
returns-clause-join_with_bottom c = join_with_bottom

pub returns-clause-meet_with_bottom : goal.returns-clause-meet_with_bottom
returns-clause-meet_with_bottom c = meet_with_bottom

pub returns-clause-join_with_top : goal.returns-clause-join_with_top
returns-clause-join_with_top c = join_with_top
