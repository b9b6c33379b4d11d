use Rattle.clap.specs.Walk.{texts}
use Rattle.clap.specs.Words.{app_of}
use Rattle.xc_words.proofs.Taking.{taken, not_taken}
use Rattle.xc_words.proofs.command.matched.Goals as goal

pub returns-in-Ok : goal.returns-in-Ok
returns-in-Ok c = taken (app_of c.in_ok-command.field-0) (texts c.args.line.now) c.in-Ok.matches c.in_ok-command.ensures c.in-Ok.ensures.matches c.in-Ok.ensures.kinds

pub returns-in-Err : goal.returns-in-Err
returns-in-Err c = not_taken (app_of c.in_ok-command.field-0) (texts c.args.line.now) c.in-Err.error c.failure.result c.in_ok-command.ensures c.in-Err.ensures.passes c.in-Err.ensures.kinds c.failure.ensures
