use Rattle.std.proofs.Common.{◌+◌, ◌*◌}
use Rattle.xc_ctl.specs.Tables.{size_of}
use Rattle.xc_ctl.specs.Formulas.{tree_of}
use Rattle.xc_formula_text.proofs.printer.+printer.Given as goal

abbrev pub decreases-push_operand : goal.decreases-push_operand
decreases-push_operand l = 4 * size_of (tree_of l.tree.now) + 1

abbrev pub decreases-push_prefixed : goal.decreases-push_prefixed
decreases-push_prefixed l = 4 * size_of (tree_of l.tree.now) + 2

abbrev pub decreases-push_until : goal.decreases-push_until
decreases-push_until l = 4 * (size_of (tree_of l.left.now) + size_of (tree_of l.right.now)) + 2

abbrev pub decreases-push_tree : goal.decreases-push_tree
decreases-push_tree l = 4 * size_of (tree_of l.tree.now)
