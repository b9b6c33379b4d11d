use Rattle.xc_alg.specs.Products.{product}
use Rattle.xc_alg.proofs.Products.{product_laws, digitwise_meets, digitwise_joins, digits_of_meets, digits_of_joins, digits_of_negations}
use Rattle.xc_alg.proofs.laws.products_are_algebras.Goals as goal

pub returns-clause-laws : goal.returns-clause-laws
returns-clause-laws c = product_laws

pub returns-clause-meets : goal.returns-clause-meets
unfolding product
returns-clause-meets c = digitwise_meets

pub returns-clause-joins : goal.returns-clause-joins
unfolding product
returns-clause-joins c = digitwise_joins

pub returns-clause-digits_of_meets : goal.returns-clause-digits_of_meets
returns-clause-digits_of_meets c = digits_of_meets

pub returns-clause-digits_of_joins : goal.returns-clause-digits_of_joins
returns-clause-digits_of_joins c = digits_of_joins

pub returns-clause-digits_of_negations : goal.returns-clause-digits_of_negations
returns-clause-digits_of_negations c = digits_of_negations
