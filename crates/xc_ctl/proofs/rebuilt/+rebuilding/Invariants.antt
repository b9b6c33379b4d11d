use Rattle.std.proofs.Common.{◌+◌, ◌*◌, length}
use Rattle.xc_ctl.proofs.rebuilt.+rebuilding.Given as goal

abbrev pub decreases-child_at : goal.decreases-child_at
decreases-child_at l = 2 * length l.nodes.now

abbrev pub decreases-tree_on : goal.decreases-tree_on
decreases-tree_on l = 2 * length l.before.now + 1
