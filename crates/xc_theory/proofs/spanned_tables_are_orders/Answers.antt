use Rattle.xc_theory.specs.Laws.{Passes}
use Rattle.xc_theory.proofs.Orders.{spanned_refl, spanned_trans, spanned_once}
use Rattle.xc_theory.proofs.spanned_tables_are_orders.Goals as goal

pub returns-clause-reflexive : goal.returns-clause-reflexive
returns-clause-reflexive c = λ test n. spanned_refl n (Passes test)

pub returns-clause-transitive : goal.returns-clause-transitive
returns-clause-transitive c = λ test n. spanned_trans n (Passes test)

pub returns-clause-unique : goal.returns-clause-unique
returns-clause-unique c = λ test n. spanned_once n (Passes test)
