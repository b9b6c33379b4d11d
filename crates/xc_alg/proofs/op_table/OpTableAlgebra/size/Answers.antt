use Rattle.std.proofs.Common.{sym, ◌∙◌}
use Rattle.xc_alg.proofs.Tables.{product_size}
use Rattle.xc_alg.proofs.op_table.OpTableAlgebra.size.Goals as goal

pub returns : goal.returns
returns g c = sym (product_size _ ∙ c.args.self.now.tells.sized)
