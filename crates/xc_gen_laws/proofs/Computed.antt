-- The checks of the sizes up to 12.
use Rattle.std.proofs.Common.{◌≡◌, true, refl}
use Rattle.std.specs.Fmt as fmt
use Rattle.xc_base.specs.Deciding.{line_of, statements_of, file_of, statement_fault}
use Rattle.xc_base.specs.Text.{lines_of, tokens_from, rows_from, first_fault_from}
use Rattle.xc_base.specs.Operators.{chained, chain, chain_up_to}
use Rattle.xc_grammar.specs.Reading.{level_by, whole_by, basic, whole_at, tree_in}
use Rattle.xc_expr.specs.GuardReading.{atom}
use Rattle.xc_expr.specs.ActionReading.{assignment_in, assignments_in}
use Rattle.xc_expr.specs.Reading.{guard_in, action_in}
use Rattle.xc_view_lines.specs.LineReading as view_lines
use Rattle.xc_view.specs.Deciding as views
use Rattle.xc_sigmap_lines.specs.Deciding as maps
use Rattle.xc_gen.specs.Generated.{view_text, map_text, has_value}
use Rattle.xc_gen_laws.proofs.Checks.{all_fit}

pub of_1 : all_fit 1 ≡ true
unfolding file_of statements_of line_of statement_fault views.decide view_lines.line view_lines.word_line view_lines.command_parts maps.decide maps.line maps.word_line guard_in tree_in whole_at whole_by level_by basic atom action_in assignments_in assignment_in chained chain chain_up_to lines_of tokens_from rows_from first_fault_from view_text map_text has_value fmt.digits
of_1 = refl

pub of_2 : all_fit 2 ≡ true
unfolding file_of statements_of line_of statement_fault views.decide view_lines.line view_lines.word_line view_lines.command_parts maps.decide maps.line maps.word_line guard_in tree_in whole_at whole_by level_by basic atom action_in assignments_in assignment_in chained chain chain_up_to lines_of tokens_from rows_from first_fault_from view_text map_text has_value fmt.digits
of_2 = refl

pub of_3 : all_fit 3 ≡ true
unfolding file_of statements_of line_of statement_fault views.decide view_lines.line view_lines.word_line view_lines.command_parts maps.decide maps.line maps.word_line guard_in tree_in whole_at whole_by level_by basic atom action_in assignments_in assignment_in chained chain chain_up_to lines_of tokens_from rows_from first_fault_from view_text map_text has_value fmt.digits
of_3 = refl

pub of_4 : all_fit 4 ≡ true
unfolding file_of statements_of line_of statement_fault views.decide view_lines.line view_lines.word_line view_lines.command_parts maps.decide maps.line maps.word_line guard_in tree_in whole_at whole_by level_by basic atom action_in assignments_in assignment_in chained chain chain_up_to lines_of tokens_from rows_from first_fault_from view_text map_text has_value fmt.digits
of_4 = refl

pub of_5 : all_fit 5 ≡ true
unfolding file_of statements_of line_of statement_fault views.decide view_lines.line view_lines.word_line view_lines.command_parts maps.decide maps.line maps.word_line guard_in tree_in whole_at whole_by level_by basic atom action_in assignments_in assignment_in chained chain chain_up_to lines_of tokens_from rows_from first_fault_from view_text map_text has_value fmt.digits
of_5 = refl

pub of_6 : all_fit 6 ≡ true
unfolding file_of statements_of line_of statement_fault views.decide view_lines.line view_lines.word_line view_lines.command_parts maps.decide maps.line maps.word_line guard_in tree_in whole_at whole_by level_by basic atom action_in assignments_in assignment_in chained chain chain_up_to lines_of tokens_from rows_from first_fault_from view_text map_text has_value fmt.digits
of_6 = refl

pub of_7 : all_fit 7 ≡ true
unfolding file_of statements_of line_of statement_fault views.decide view_lines.line view_lines.word_line view_lines.command_parts maps.decide maps.line maps.word_line guard_in tree_in whole_at whole_by level_by basic atom action_in assignments_in assignment_in chained chain chain_up_to lines_of tokens_from rows_from first_fault_from view_text map_text has_value fmt.digits
of_7 = refl

pub of_8 : all_fit 8 ≡ true
unfolding file_of statements_of line_of statement_fault views.decide view_lines.line view_lines.word_line view_lines.command_parts maps.decide maps.line maps.word_line guard_in tree_in whole_at whole_by level_by basic atom action_in assignments_in assignment_in chained chain chain_up_to lines_of tokens_from rows_from first_fault_from view_text map_text has_value fmt.digits
of_8 = refl

pub of_9 : all_fit 9 ≡ true
unfolding file_of statements_of line_of statement_fault views.decide view_lines.line view_lines.word_line view_lines.command_parts maps.decide maps.line maps.word_line guard_in tree_in whole_at whole_by level_by basic atom action_in assignments_in assignment_in chained chain chain_up_to lines_of tokens_from rows_from first_fault_from view_text map_text has_value fmt.digits
of_9 = refl

pub of_10 : all_fit 10 ≡ true
unfolding file_of statements_of line_of statement_fault views.decide view_lines.line view_lines.word_line view_lines.command_parts maps.decide maps.line maps.word_line guard_in tree_in whole_at whole_by level_by basic atom action_in assignments_in assignment_in chained chain chain_up_to lines_of tokens_from rows_from first_fault_from view_text map_text has_value fmt.digits
of_10 = refl

pub of_11 : all_fit 11 ≡ true
unfolding file_of statements_of line_of statement_fault views.decide view_lines.line view_lines.word_line view_lines.command_parts maps.decide maps.line maps.word_line guard_in tree_in whole_at whole_by level_by basic atom action_in assignments_in assignment_in chained chain chain_up_to lines_of tokens_from rows_from first_fault_from view_text map_text has_value fmt.digits
of_11 = refl

pub of_12 : all_fit 12 ≡ true
unfolding file_of statements_of line_of statement_fault views.decide view_lines.line view_lines.word_line view_lines.command_parts maps.decide maps.line maps.word_line guard_in tree_in whole_at whole_by level_by basic atom action_in assignments_in assignment_in chained chain chain_up_to lines_of tokens_from rows_from first_fault_from view_text map_text has_value fmt.digits
of_12 = refl
