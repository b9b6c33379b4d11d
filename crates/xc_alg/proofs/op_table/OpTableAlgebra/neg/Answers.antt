use Rattle.std.proofs.Common.{arith}
use Rattle.xc_alg.proofs.Tables.{code-row, negation-entry}
use Rattle.xc_alg.proofs.op_table.OpTableAlgebra.neg.Goals as goal

pub bounds-self-a : goal.bounds-self-a
bounds-self-a g c = omega (arith, code-row c.args.self.now.tells c.args.a c.requires, c.args.self.now.fits)

pub returns : goal.returns
returns g c = negation-entry c.args.self.now.tells c.args.a c.requires
