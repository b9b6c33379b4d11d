use Rattle.xc_lattice.proofs.Deciding.{decides}
use Rattle.xc_lattice.proofs.Existence.{each_has_verdict}
use Rattle.xc_lattice.proofs.Verdicts.{verdicts_are_unique}
use Rattle.xc_lattice.proofs.verdict.files_have_one_verdict.Goals as goal

pub files_are_judged_once-requires : goal.files_are_judged_once-requires
files_are_judged_once-requires c = decides

pub returns-clause-at_most : goal.returns-clause-at_most
returns-clause-at_most c = verdicts_are_unique

pub returns-clause-at_least : goal.returns-clause-at_least
returns-clause-at_least c = each_has_verdict
