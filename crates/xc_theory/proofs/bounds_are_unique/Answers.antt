use Rattle.xc_theory.proofs.Bounds.{meets_are_unique, joins_are_unique}
use Rattle.xc_theory.proofs.bounds_are_unique.Goals as goal

pub returns-clause-meets : goal.returns-clause-meets
returns-clause-meets c = meets_are_unique

pub returns-clause-joins : goal.returns-clause-joins
returns-clause-joins c = joins_are_unique
