use Rattle.xc_theory.proofs.Bounds.{meets_are_found, joins_are_found, no_other_meets, no_other_joins}
use Rattle.xc_theory.proofs.first_bounds_are_bounds.Goals as goal

pub returns-clause-meets : goal.returns-clause-meets
returns-clause-meets c = meets_are_found

pub returns-clause-joins : goal.returns-clause-joins
returns-clause-joins c = joins_are_found

pub returns-clause-no_other_meets : goal.returns-clause-no_other_meets
returns-clause-no_other_meets c = no_other_meets

pub returns-clause-no_other_joins : goal.returns-clause-no_other_joins
returns-clause-no_other_joins c = no_other_joins
