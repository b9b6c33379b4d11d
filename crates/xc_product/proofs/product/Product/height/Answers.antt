use Rattle.xc_product.proofs.HeightSums.{height_is_sum, have_heights}
use Rattle.xc_product.specs.Products.{parts_of}
use Rattle.xc_product.proofs.product.Product.height.Goals as goal

pub returns-clause-sum : goal.returns-clause-sum
returns-clause-sum c = height_is_sum (parts_of c.args.self.now) c.args.self.now.height c.args.self.now.summed

pub returns-clause-exist : goal.returns-clause-exist
returns-clause-exist c = have_heights (parts_of c.args.self.now) c.args.self.now.height c.args.self.now.summed
