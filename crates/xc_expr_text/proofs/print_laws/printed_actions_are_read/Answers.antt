use Rattle.xc_expr_text.proofs.ActionsAgain.{printed_actions_are_read, read_actions_are_writable, assigns_are_unique, actions_keep_their_tokens}
use Rattle.xc_expr_text.proofs.LineParts.{actions_are_line_parts}
use Rattle.xc_expr_text.proofs.print_laws.printed_actions_are_read.Goals as goal

pub returns-clause-again : goal.returns-clause-again
returns-clause-again c = printed_actions_are_read

pub returns-clause-writable : goal.returns-clause-writable
returns-clause-writable c = read_actions_are_writable

pub returns-clause-unique : goal.returns-clause-unique
returns-clause-unique c = assigns_are_unique

pub returns-clause-parts : goal.returns-clause-parts
returns-clause-parts c = actions_are_line_parts

pub returns-clause-same : goal.returns-clause-same
returns-clause-same c = actions_keep_their_tokens
