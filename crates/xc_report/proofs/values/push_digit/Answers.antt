use Rattle.xc_machine.specs.Machines.{merge_of}
use Rattle.xc_product.specs.Products.{parts_of as parts_in}
use Rattle.xc_report.proofs.Telling.{digit_named}
use Rattle.xc_report.proofs.values.push_digit.Goals as goal

pub push_name-requires-clause-element : goal.push_name-requires-clause-element
push_name-requires-clause-element c =
    digit_named (merge_of c.args.machine.now) c.args.part c.digit-digit.result (parts_in c.product.result.now)
    c.requires.part (c.is_framed.ensures.lattices c.args.part c.requires.part).named c.product.ensures c.digit-digit.ensures.within
