use Rattle.std.proofs.Common.{rules}
use Rattle.xc_lattice.proofs.lattice.Lattice.table.Goals as goal

pub returns : goal.returns
returns g c = c.of.ensures (record { order = c.args.self.now.order; negations = c.args.self.now.negations }) (search rules)
