use Rattle.xc_gen_laws.proofs.Merging.{texts_are_clean, files_are_accepted, viewpoints_merge, formulas_are_accepted}
use Rattle.xc_gen_laws.proofs.generated_files_merge.Goals as goal

pub returns-clause-clean : goal.returns-clause-clean
returns-clause-clean c = texts_are_clean

pub returns-clause-accepted : goal.returns-clause-accepted
returns-clause-accepted c = files_are_accepted

pub returns-clause-merge : goal.returns-clause-merge
returns-clause-merge c = viewpoints_merge

pub returns-clause-formulas : goal.returns-clause-formulas
returns-clause-formulas c = formulas_are_accepted
