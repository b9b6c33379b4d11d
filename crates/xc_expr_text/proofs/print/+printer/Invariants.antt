use Rattle.std.proofs.Common.{◌+◌, ◌*◌}
use Rattle.xc_expr_text.proofs.print.+printer.Given as goal

abbrev pub decreases-write_operand : goal.decreases-write_operand
decreases-write_operand l = 2 * goal.size-write_operand l + 1

abbrev pub decreases-write_guard : goal.decreases-write_guard
decreases-write_guard l = 2 * goal.size-write_guard l
