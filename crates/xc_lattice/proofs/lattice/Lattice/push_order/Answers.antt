use Rattle.xc_lattice.specs.Values.{value_of}
use Rattle.xc_lattice.proofs.PrintedLines.{order_more}
use Rattle.xc_lattice.proofs.lattice.Lattice.push_order.Goals as goal

pub loop-a-preserved : goal.loop-a-preserved
loop-a-preserved c =
    order_more c.args.text.now c.loop-a.text c.push_below.new.text (value_of c.args.self.now) c.loop-a.a c.loop-a.invariant c.in_ok-push_below.ensures
