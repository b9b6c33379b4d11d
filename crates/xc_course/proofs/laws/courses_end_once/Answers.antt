use Rattle.xc_course.proofs.Once.{courses_end_once}
use Rattle.xc_course.proofs.Existence.{courses_end}
use Rattle.xc_course.proofs.laws.courses_end_once.Goals as goal

pub returns-clause-at_least : goal.returns-clause-at_least
returns-clause-at_least c = courses_end

pub returns-clause-at_most : goal.returns-clause-at_most
returns-clause-at_most c = courses_end_once
