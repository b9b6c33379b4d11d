use Rattle.xc_lattice.specs.Values.{value_of}
use Rattle.xc_lattice.proofs.PrintedLines.{text_whole}
use Rattle.xc_lattice.proofs.lattice.Lattice.text.Goals as goal

pub returns : goal.returns
returns c =
    text_whole (value_of c.args.self.now) c.new-text.result c.push_head.new.text c.push_elements.new.text c.push_order.new.text c.push_negations.new.text
    c.new-text.ensures c.in_ok-push_head.ensures c.in_ok-push_elements.ensures c.in_ok-push_order.ensures c.in_ok-push_negations.ensures
