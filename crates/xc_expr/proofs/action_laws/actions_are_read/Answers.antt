use Rattle.xc_expr.proofs.ActionSpelling.{actions_are_read, actions_are_unique}
use Rattle.xc_expr.proofs.KnownActions.{known_action_in_range}
use Rattle.xc_expr.proofs.action_laws.actions_are_read.Goals as goal

pub returns-clause-read : goal.returns-clause-read
returns-clause-read c = actions_are_read

pub returns-clause-unique : goal.returns-clause-unique
returns-clause-unique c = actions_are_unique

pub returns-clause-range : goal.returns-clause-range
returns-clause-range c = known_action_in_range
