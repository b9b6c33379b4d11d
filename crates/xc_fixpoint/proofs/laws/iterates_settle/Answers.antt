use Rattle.std.proofs.Common.{true, false}
use Rattle.xc_fixpoint.proofs.Iterates.{iterate_before_next, settled_is_extremal}
use Rattle.xc_fixpoint.proofs.Settling.{iterates_settle, settles_once, settled_stays}
use Rattle.xc_fixpoint.proofs.laws.iterates_settle.Goals as goal

pub returns-clause-rise : goal.returns-clause-rise
returns-clause-rise c = λ o laws n step monotone. iterate_before_next o laws true n step monotone

pub returns-clause-fall : goal.returns-clause-fall
returns-clause-fall c = λ o laws n step monotone. iterate_before_next o laws false n step monotone

pub returns-clause-settle : goal.returns-clause-settle
returns-clause-settle c = λ o laws n step monotone up. iterates_settle o laws up n step monotone

pub returns-clause-settle_once : goal.returns-clause-settle_once
returns-clause-settle_once c = λ o laws n step monotone up. settles_once o up n step

pub returns-clause-least : goal.returns-clause-least
returns-clause-least c = λ o laws n step monotone. settled_is_extremal o laws true n step monotone

pub returns-clause-greatest : goal.returns-clause-greatest
returns-clause-greatest c = λ o laws n step monotone. settled_is_extremal o laws false n step monotone

pub returns-clause-stay : goal.returns-clause-stay
returns-clause-stay c = λ o laws n step monotone up. settled_stays o laws up n step monotone
