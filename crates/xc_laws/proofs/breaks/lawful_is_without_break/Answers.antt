use Rattle.xc_laws.proofs.Lawful.{lawful_from_no_break}
use Rattle.xc_laws.proofs.Unbroken.{lawful_is_unbroken}
use Rattle.xc_laws.proofs.breaks.lawful_is_without_break.Goals as goal

pub returns-clause-lawful : goal.returns-clause-lawful
returns-clause-lawful c = lawful_from_no_break

pub returns-clause-unbroken : goal.returns-clause-unbroken
returns-clause-unbroken c = lawful_is_unbroken
