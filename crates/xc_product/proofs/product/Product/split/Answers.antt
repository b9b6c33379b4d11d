use Rattle.std.proofs.Common.{◌+◌, arith}
use Rattle.std.proofs.lemmas.Nat.{mod_below}
use Rattle.xc_product.specs.Parts.{weight}
use Rattle.xc_product.proofs.Turns.{positive}
use Rattle.xc_product.proofs.product.Product.split.Goals as goal

pub nonzero_div-result : goal.nonzero_div-result
nonzero_div-result c = omega (arith, positive c.args.self.now.tables (c.args.part + 1), c.args.self.now.holds.weighted c.args.part c.requires.part)

pub nonzero_rem-result : goal.nonzero_rem-result
nonzero_rem-result c = omega (arith, positive c.args.self.now.tables (c.args.part + 1), c.args.self.now.holds.weighted c.args.part c.requires.part)

pub returns-clause-within : goal.returns-clause-within
returns-clause-within c = rw (c.args.self.now.holds.weighted c.args.part c.requires.part) (mod_below c.args.code (weight c.args.self.now.tables c.args.part) (positive c.args.self.now.tables (c.args.part + 1)))
