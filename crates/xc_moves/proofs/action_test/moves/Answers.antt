-- The places of a state are digits.
use Rattle.xc_forms.specs.Variables.{sizes_of}
use Rattle.xc_moves.proofs.Placing.{are_digits}
use Rattle.xc_moves.proofs.action_test.moves.Goals as goal

pub moves_in-requires-clause-from : goal.moves_in-requires-clause-from
moves_in-requires-clause-from c = are_digits (sizes_of c.args.vars.now) _ c.args.s c.requires.from (cc)

pub moves_in-requires-clause-to : goal.moves_in-requires-clause-to
moves_in-requires-clause-to c = are_digits (sizes_of c.args.vars.now) _ c.args.t c.requires.to (cc)
