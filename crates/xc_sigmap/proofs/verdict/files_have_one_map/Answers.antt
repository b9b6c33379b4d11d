use Rattle.xc_sigmap_lines.proofs.Deciding.{decides}
use Rattle.xc_sigmap.proofs.Verdicts.{maps_are_unique, faults_are_unique, accepted_is_faultless, files_are_judged}
use Rattle.xc_sigmap.proofs.verdict.files_have_one_map.Goals as goal

pub files_are_judged_once-requires : goal.files_are_judged_once-requires
files_are_judged_once-requires c = decides

pub returns-clause-maps : goal.returns-clause-maps
returns-clause-maps c = maps_are_unique

pub returns-clause-faults : goal.returns-clause-faults
returns-clause-faults c = faults_are_unique

pub returns-clause-never_both : goal.returns-clause-never_both
returns-clause-never_both c = accepted_is_faultless

pub returns-clause-judged : goal.returns-clause-judged
returns-clause-judged c = files_are_judged
