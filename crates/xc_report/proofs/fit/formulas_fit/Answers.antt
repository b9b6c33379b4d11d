use Rattle.std.proofs.Common.{◌≡◌, length, arith}
use Rattle.xc_machine.specs.Machines.{merge_of}
use Rattle.xc_report.proofs.Lattices.{names_as_many}
use Rattle.xc_report.proofs.Framed.{signature_is_fit}
use Rattle.xc_report.proofs.Machined.{are_named, viewpoint_count, elements_few}
use Rattle.xc_report.proofs.fit.formulas_fit.Goals as goal

pub returns-clause-fit : goal.returns-clause-fit
returns-clause-fit c =
    let many : c.parts-count.result ≡ length (merge_of c.args.machine.now).viewpoints = viewpoint_count (merge_of c.args.machine.now) c.product.result.now c.parts-count.result c.product.ensures c.parts-count.ensures.count in
    signature_is_fit (merge_of c.args.machine.now) c.is_framed.ensures.map (omega (arith, many, c.parts-count.ensures.several)) (omega (arith, many, c.parts-count.ensures.few)) (are_named (merge_of c.args.machine.now) c.is_framed.ensures.lattices)
    (elements_few (merge_of c.args.machine.now) c.product.result.now c.product.ensures (c.laws_hold.ensures.limited c.product.result.now))

pub returns-clause-size : goal.returns-clause-size
returns-clause-size c = names_as_many (merge_of c.args.machine.now) (are_named (merge_of c.args.machine.now) c.is_framed.ensures.lattices)
