use Rattle.xc_course.proofs.Working.{works_passed}
use Rattle.xc_show.specs.Showing.{LatticeTree, Verdicts}
use Rattle.xc_show.proofs.judging.lattice.Goals as goal

pub returns-in_err-judged : goal.returns-in_err-judged
returns-in_err-judged g c = works_passed (LatticeTree c.args.name.now) _ _ _ _ _ _ c.from_residual.ensures.1 (c.in_err-judged.ensures.stops (Verdicts c.args.name.now) _)

pub returns : goal.returns
returns g c = c.in_ok-judged.ensures.goes_on (Verdicts c.args.name.now) _ _ _ _ (c.answer.ensures c.args.name.now (g.S.Shelf.seen c.judge_lattice.new.shelf))
