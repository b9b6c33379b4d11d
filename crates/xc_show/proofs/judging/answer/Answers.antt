use Rattle.xc_show.proofs.judging.answer.Goals as goal

pub returns-in-Lawful : goal.returns-in-Lawful
returns-in-Lawful g c = λ name now. rw c.in-Lawful.is (c.describe.ensures now)

pub returns-in-Broken : goal.returns-in-Broken
returns-in-Broken g c = λ name now. rw c.in-Broken.is (c.tell_break.ensures now)
