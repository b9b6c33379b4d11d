use Rattle.std.proofs.Common.{true, false}
use Rattle.xc_fixpoint.proofs.Fixpoints.{extremal_exists, extremal_is_unique, agree-extremal}
use Rattle.xc_fixpoint.proofs.laws.extremal_fixpoints.Goals as goal

pub returns-clause-least_exists : goal.returns-clause-least_exists
returns-clause-least_exists c = λ o laws n step monotone. extremal_exists o laws true n step monotone

pub returns-clause-greatest_exists : goal.returns-clause-greatest_exists
returns-clause-greatest_exists c = λ o laws n step monotone. extremal_exists o laws false n step monotone

pub returns-clause-least_is_unique : goal.returns-clause-least_is_unique
returns-clause-least_is_unique c = λ o laws n step monotone. extremal_is_unique o laws true n step

pub returns-clause-greatest_is_unique : goal.returns-clause-greatest_is_unique
returns-clause-greatest_is_unique c = λ o laws n step monotone. extremal_is_unique o laws false n step

pub returns-clause-agreeing : goal.returns-clause-agreeing
returns-clause-agreeing c = λ o laws n step monotone up. agree-extremal o laws up n step monotone
