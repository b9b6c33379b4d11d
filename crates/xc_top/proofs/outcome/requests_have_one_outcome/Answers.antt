use Rattle.xc_top.proofs.Outcomes.{requests_have_outcomes, outcomes_are_unique, outcomes_have_texts, texts_are_unique}
use Rattle.xc_top.proofs.outcome.requests_have_one_outcome.Goals as goal

pub returns-clause-at_least : goal.returns-clause-at_least
returns-clause-at_least c = requests_have_outcomes

pub returns-clause-at_most : goal.returns-clause-at_most
returns-clause-at_most c = outcomes_are_unique

pub returns-clause-texts : goal.returns-clause-texts
returns-clause-texts c = outcomes_have_texts

pub returns-clause-one_text : goal.returns-clause-one_text
returns-clause-one_text c = texts_are_unique
