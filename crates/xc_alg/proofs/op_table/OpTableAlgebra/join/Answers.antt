use Rattle.std.proofs.Common.{◌∙◌}
use Rattle.xc_alg.proofs.Tables.{entry_call, join-entry}
use Rattle.xc_alg.proofs.op_table.OpTableAlgebra.join.Goals as goal

pub entry_at-requires : goal.entry_at-requires
entry_at-requires g c =
    entry_call c.args.self.now.tells g.row.N c.args.a c.args.b c.args.self.now.fits c.args.self.now.small c.requires.left c.requires.right

pub returns : goal.returns
returns g c = c.entry_at.ensures ∙ join-entry c.args.self.now.tells c.args.a c.args.b c.requires.left c.requires.right
