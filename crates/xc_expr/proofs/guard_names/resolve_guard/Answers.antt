use Rattle.xc_expr.specs.Written.{written}
use Rattle.xc_expr.proofs.GuardRange.{known_in_range}
use Rattle.xc_expr.proofs.guard_names.resolve_guard.Goals as goal

pub returns-clause-range : goal.returns-clause-range
returns-clause-range c = known_in_range c.args.vars.now (written c.args.phrase.now) c.resolve.result c.resolve.ensures
