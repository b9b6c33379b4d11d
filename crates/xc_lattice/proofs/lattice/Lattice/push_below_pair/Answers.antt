use Rattle.std.proofs.Common.{sym, ◌∙◌}
use Rattle.xc_lattice.specs.Values.{value_of}
use Rattle.xc_lattice.proofs.PrintedLines.{pair_without}
use Rattle.xc_lattice.proofs.lattice.Lattice.push_below_pair.Goals as goal

pub returns-then-not-is_strictly_below : goal.returns-then-not-is_strictly_below
returns-then-not-is_strictly_below c =
    pair_without c.args.text.now (value_of c.args.self.now) c.args.a c.args.b (sym c.is_strictly_below.ensures ∙ c.if-not-is_strictly_below.true)
