use Rattle.xc_expr_text.proofs.GuardsAgain.{printed_guards_are_read, read_guards_are_writable, tests_are_unique, no_print_is_longer}
use Rattle.xc_expr_text.proofs.LineParts.{guards_are_line_parts}
use Rattle.xc_expr_text.proofs.print_laws.printed_guards_are_read.Goals as goal

pub returns-clause-again : goal.returns-clause-again
returns-clause-again c = printed_guards_are_read

pub returns-clause-writable : goal.returns-clause-writable
returns-clause-writable c = read_guards_are_writable

pub returns-clause-unique : goal.returns-clause-unique
returns-clause-unique c = tests_are_unique

pub returns-clause-parts : goal.returns-clause-parts
returns-clause-parts c = guards_are_line_parts

pub returns-clause-short : goal.returns-clause-short
returns-clause-short c = no_print_is_longer
