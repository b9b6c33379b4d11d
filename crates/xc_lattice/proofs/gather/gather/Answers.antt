use Rattle.xc_lattice.proofs.Said.{says_read}
use Rattle.xc_lattice.proofs.gather.gather.Goals as goal

pub returns : goal.returns
returns c =
    says_read c.args.statements.now c.requires.draft c.requires.whole
    c.in_ok-name.name c.in-Some.name.now c.in_ok-names.names c.element_names-names.result.now
    c.in_ok-pairs.pairs c.in_ok-negations.negations c.in_ok-order.order
    c.in-Some.ensures c.element_names-names.ensures c.in_ok-pairs.ensures c.in_ok-order.ensures c.in_ok-negations.ensures
    c.in_ok-name.ensures c.in_ok-names.ensures
