use Rattle.xc_alg.specs.Products.{product}
use Rattle.xc_alg.proofs.AlgebraLaws.{negation_of_implication}
use Rattle.xc_alg.proofs.algebra.implies.Goals as goal

pub returns-clause-negated : goal.returns-clause-negated
returns-clause-negated g c =
    negation_of_implication (product (g.A.Algebra.parts c.args.algebra.now)) (g.met.A.Algebra.laws c.args.algebra.now)
    c.args.a c.args.b c.neg.result c.join.result c.requires.left c.requires.right c.neg.ensures c.join.ensures
