-- The checks of size 19, side by side and remainder by remainder.
use Rattle.std.proofs.Common.{◌≡◌, true, refl}
use Rattle.std.specs.Fmt as fmt
use Rattle.xc_base.specs.Deciding.{line_of, statements_of, file_of, statement_fault}
use Rattle.xc_base.specs.Text.{lines_of, tokens_from, rows_from, first_fault_from}
use Rattle.xc_base.specs.Operators.{chained, chain, chain_up_to}
use Rattle.xc_grammar.specs.Reading.{level_by, whole_by, basic, whole_at, tree_in}
use Rattle.xc_expr.specs.GuardReading.{atom}
use Rattle.xc_expr.specs.ActionReading.{assignment_in, assignments_in}
use Rattle.xc_expr.specs.Reading.{guard_in, action_in}
use Rattle.xc_view_lines.specs.LineReading as view_lines
use Rattle.xc_view.specs.Deciding as views
use Rattle.xc_sigmap_lines.specs.Deciding as maps
use Rattle.xc_gen.specs.Generated.{view_text, map_text, has_value}
use Rattle.xc_gen.specs.declared.side.Side.TheVariants.{Left, Right}
use Rattle.xc_gen_laws.proofs.Checks.{all_fit, views_fit, view_fits, view_read}
use Rattle.xc_gen_laws.proofs.Parts.{head_fits, plan_of, all_from_parts}

head : head_fits 19 ≡ true
unfolding file_of statements_of line_of statement_fault views.decide view_lines.line view_lines.word_line view_lines.command_parts maps.decide maps.line maps.word_line guard_in tree_in whole_at whole_by level_by basic atom action_in assignments_in assignment_in chained chain chain_up_to lines_of tokens_from rows_from first_fault_from view_text map_text has_value fmt.digits
head = refl

left_0 : view_fits (plan_of 19) Left (view_text Left 0 19) (view_read Left 0 19) ≡ true
unfolding file_of statements_of line_of statement_fault views.decide view_lines.line view_lines.word_line view_lines.command_parts maps.decide maps.line maps.word_line guard_in tree_in whole_at whole_by level_by basic atom action_in assignments_in assignment_in chained chain chain_up_to lines_of tokens_from rows_from first_fault_from view_text map_text has_value fmt.digits
left_0 = refl

left_1 : view_fits (plan_of 19) Left (view_text Left 1 19) (view_read Left 1 19) ≡ true
unfolding file_of statements_of line_of statement_fault views.decide view_lines.line view_lines.word_line view_lines.command_parts maps.decide maps.line maps.word_line guard_in tree_in whole_at whole_by level_by basic atom action_in assignments_in assignment_in chained chain chain_up_to lines_of tokens_from rows_from first_fault_from view_text map_text has_value fmt.digits
left_1 = refl

left_2 : view_fits (plan_of 19) Left (view_text Left 2 19) (view_read Left 2 19) ≡ true
unfolding file_of statements_of line_of statement_fault views.decide view_lines.line view_lines.word_line view_lines.command_parts maps.decide maps.line maps.word_line guard_in tree_in whole_at whole_by level_by basic atom action_in assignments_in assignment_in chained chain chain_up_to lines_of tokens_from rows_from first_fault_from view_text map_text has_value fmt.digits
left_2 = refl

left_3 : view_fits (plan_of 19) Left (view_text Left 3 19) (view_read Left 3 19) ≡ true
unfolding file_of statements_of line_of statement_fault views.decide view_lines.line view_lines.word_line view_lines.command_parts maps.decide maps.line maps.word_line guard_in tree_in whole_at whole_by level_by basic atom action_in assignments_in assignment_in chained chain chain_up_to lines_of tokens_from rows_from first_fault_from view_text map_text has_value fmt.digits
left_3 = refl

left_4 : view_fits (plan_of 19) Left (view_text Left 4 19) (view_read Left 4 19) ≡ true
unfolding file_of statements_of line_of statement_fault views.decide view_lines.line view_lines.word_line view_lines.command_parts maps.decide maps.line maps.word_line guard_in tree_in whole_at whole_by level_by basic atom action_in assignments_in assignment_in chained chain chain_up_to lines_of tokens_from rows_from first_fault_from view_text map_text has_value fmt.digits
left_4 = refl

lefts : views_fit (plan_of 19) Left 19 ≡ true
lefts = rw (left_0, left_1, left_2, left_3, left_4) refl

right_0 : view_fits (plan_of 19) Right (view_text Right 0 19) (view_read Right 0 19) ≡ true
unfolding file_of statements_of line_of statement_fault views.decide view_lines.line view_lines.word_line view_lines.command_parts maps.decide maps.line maps.word_line guard_in tree_in whole_at whole_by level_by basic atom action_in assignments_in assignment_in chained chain chain_up_to lines_of tokens_from rows_from first_fault_from view_text map_text has_value fmt.digits
right_0 = refl

right_1 : view_fits (plan_of 19) Right (view_text Right 1 19) (view_read Right 1 19) ≡ true
unfolding file_of statements_of line_of statement_fault views.decide view_lines.line view_lines.word_line view_lines.command_parts maps.decide maps.line maps.word_line guard_in tree_in whole_at whole_by level_by basic atom action_in assignments_in assignment_in chained chain chain_up_to lines_of tokens_from rows_from first_fault_from view_text map_text has_value fmt.digits
right_1 = refl

right_2 : view_fits (plan_of 19) Right (view_text Right 2 19) (view_read Right 2 19) ≡ true
unfolding file_of statements_of line_of statement_fault views.decide view_lines.line view_lines.word_line view_lines.command_parts maps.decide maps.line maps.word_line guard_in tree_in whole_at whole_by level_by basic atom action_in assignments_in assignment_in chained chain chain_up_to lines_of tokens_from rows_from first_fault_from view_text map_text has_value fmt.digits
right_2 = refl

right_3 : view_fits (plan_of 19) Right (view_text Right 3 19) (view_read Right 3 19) ≡ true
unfolding file_of statements_of line_of statement_fault views.decide view_lines.line view_lines.word_line view_lines.command_parts maps.decide maps.line maps.word_line guard_in tree_in whole_at whole_by level_by basic atom action_in assignments_in assignment_in chained chain chain_up_to lines_of tokens_from rows_from first_fault_from view_text map_text has_value fmt.digits
right_3 = refl

right_4 : view_fits (plan_of 19) Right (view_text Right 4 19) (view_read Right 4 19) ≡ true
unfolding file_of statements_of line_of statement_fault views.decide view_lines.line view_lines.word_line view_lines.command_parts maps.decide maps.line maps.word_line guard_in tree_in whole_at whole_by level_by basic atom action_in assignments_in assignment_in chained chain chain_up_to lines_of tokens_from rows_from first_fault_from view_text map_text has_value fmt.digits
right_4 = refl

right_5 : view_fits (plan_of 19) Right (view_text Right 5 19) (view_read Right 5 19) ≡ true
unfolding file_of statements_of line_of statement_fault views.decide view_lines.line view_lines.word_line view_lines.command_parts maps.decide maps.line maps.word_line guard_in tree_in whole_at whole_by level_by basic atom action_in assignments_in assignment_in chained chain chain_up_to lines_of tokens_from rows_from first_fault_from view_text map_text has_value fmt.digits
right_5 = refl

right_6 : view_fits (plan_of 19) Right (view_text Right 6 19) (view_read Right 6 19) ≡ true
unfolding file_of statements_of line_of statement_fault views.decide view_lines.line view_lines.word_line view_lines.command_parts maps.decide maps.line maps.word_line guard_in tree_in whole_at whole_by level_by basic atom action_in assignments_in assignment_in chained chain chain_up_to lines_of tokens_from rows_from first_fault_from view_text map_text has_value fmt.digits
right_6 = refl

rights : views_fit (plan_of 19) Right 19 ≡ true
rights = rw (right_0, right_1, right_2, right_3, right_4, right_5, right_6) refl

pub of_19 : all_fit 19 ≡ true
of_19 = all_from_parts 19 head lefts rights
