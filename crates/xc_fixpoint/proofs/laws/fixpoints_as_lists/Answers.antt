use Rattle.xc_fixpoint.proofs.Lists.{list_of_extremal, extremal_of_list}
use Rattle.xc_fixpoint.proofs.laws.fixpoints_as_lists.Goals as goal

pub returns-clause-list : goal.returns-clause-list
returns-clause-list c = list_of_extremal

pub returns-clause-function : goal.returns-clause-function
returns-clause-function c = extremal_of_list
