use Rattle.xc_base.proofs.Deciding.{gives_statements, gives_faults, statements_are_unique, first_faults_are_unique, accepted_has_no_fault, each_is_judged}
use Rattle.xc_base.proofs.formats.files_are_judged_once.Goals as goal

pub returns-clause-statements : goal.returns-clause-statements
returns-clause-statements g c = let k = g.K.FileKind in gives_statements k.format k.decide c.requires

pub returns-clause-faults : goal.returns-clause-faults
returns-clause-faults g c = let k = g.K.FileKind in gives_faults k.format k.decide c.requires

pub returns-clause-unique : goal.returns-clause-unique
returns-clause-unique g c = let k = g.K.FileKind in statements_are_unique k.format k.decide c.requires

pub returns-clause-one_fault : goal.returns-clause-one_fault
returns-clause-one_fault g c = let k = g.K.FileKind in first_faults_are_unique k.format k.decide c.requires

pub returns-clause-never_both : goal.returns-clause-never_both
returns-clause-never_both g c = let k = g.K.FileKind in accepted_has_no_fault k.format k.decide c.requires

pub returns-clause-judged : goal.returns-clause-judged
returns-clause-judged g c = let k = g.K.FileKind in each_is_judged k.format k.decide c.requires
