use Rattle.xc_theory.specs.Laws.{Passes}
use Rattle.xc_theory.proofs.Orders.{Reaches-refl, Reaches-trans}
use Rattle.xc_theory.proofs.reaching_is_an_order.Goals as goal

pub returns-clause-reflexive : goal.returns-clause-reflexive
returns-clause-reflexive c = λ test. Reaches-refl (Passes test)

pub returns-clause-transitive : goal.returns-clause-transitive
returns-clause-transitive c = λ test. Reaches-trans (Passes test)
