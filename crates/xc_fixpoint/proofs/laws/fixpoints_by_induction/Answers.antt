use Rattle.std.proofs.Common.{true, false}
use Rattle.xc_fixpoint.proofs.Fixpoints.{extremal_by_induction}
use Rattle.xc_fixpoint.proofs.laws.fixpoints_by_induction.Goals as goal

pub returns-clause-least : goal.returns-clause-least
returns-clause-least c = λ o laws n step monotone. extremal_by_induction o laws true n step monotone

pub returns-clause-greatest : goal.returns-clause-greatest
returns-clause-greatest c = λ o laws n step monotone. extremal_by_induction o laws false n step monotone
