-- Where no action is read the tokens are none.
use Rattle.xc_base.specs.Lines.{texts}
use Rattle.xc_expr.proofs.ActionOutcomes.{is_no_action}
use Rattle.xc_expr.proofs.action_reader.action_of.Goals as goal

pub returns-in-None-clause-err : goal.returns-in-None-clause-err
returns-in-None-clause-err c = is_no_action (texts c.args.tokens.now) c.in_ok-settings.field-0 c.in_ok-settings.ensures c.in-None.is
