use Rattle.xc_fixpoint.proofs.Settling.{unsettled_are_few, settles_soon}
use Rattle.xc_fixpoint.proofs.laws.iterates_settle_soon.Goals as goal

pub returns-clause-unsettled : goal.returns-clause-unsettled
returns-clause-unsettled c = λ o laws n step monotone up. unsettled_are_few o laws up n step monotone

pub returns-clause-settled : goal.returns-clause-settled
returns-clause-settled c = λ o laws n step monotone up. settles_soon o laws up n step monotone
