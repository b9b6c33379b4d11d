use Rattle.xc_formula_text.proofs.Verdicts.{tables_are_unique, formula_faults_are_unique, formulas_have_no_fault, formula_files_are_judged}
use Rattle.xc_formula_text.proofs.verdict.files_have_one_reading.Goals as goal

pub returns-clause-tables : goal.returns-clause-tables
returns-clause-tables c = tables_are_unique

pub returns-clause-faults : goal.returns-clause-faults
returns-clause-faults c = formula_faults_are_unique

pub returns-clause-never_both : goal.returns-clause-never_both
returns-clause-never_both c = formulas_have_no_fault

pub returns-clause-judged : goal.returns-clause-judged
returns-clause-judged c = formula_files_are_judged
