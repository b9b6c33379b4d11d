use Rattle.xc_ctl.proofs.Denoting.{denotations_exist, denotations_are_unique, denotations_are_in_range, formulas_denote, formulas_denote_once}
use Rattle.xc_ctl.proofs.laws.formulas_have_one_denotation.Goals as goal

pub returns-clause-exist : goal.returns-clause-exist
returns-clause-exist c = denotations_exist

pub returns-clause-unique : goal.returns-clause-unique
returns-clause-unique c = denotations_are_unique

pub returns-clause-in_range : goal.returns-clause-in_range
returns-clause-in_range c = denotations_are_in_range

pub returns-clause-formula : goal.returns-clause-formula
returns-clause-formula c = formulas_denote

pub returns-clause-formula_once : goal.returns-clause-formula_once
returns-clause-formula_once c = formulas_denote_once
