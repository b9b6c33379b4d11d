use Rattle.xc_fixpoint.proofs.ProductHeights.{height_is_unique, height_of_product}
use Rattle.xc_fixpoint.proofs.heights.heights_of_products.Goals as goal

pub returns-clause-unique : goal.returns-clause-unique
returns-clause-unique c = height_is_unique

pub returns-clause-sum : goal.returns-clause-sum
returns-clause-sum c = height_of_product
