use Rattle.xc_moves.proofs.Moving.{found_in_range}
use Rattle.xc_moves.proofs.action_test.goes_at.Goals as goal

pub gives-requires-clause-range : goal.gives-requires-clause-range
gives-requires-clause-range c = found_in_range c.args.vars.now c.args.action.now c.args.var c.in-Some.assign c.requires.action (cc)
