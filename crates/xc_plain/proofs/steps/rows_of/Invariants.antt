-- The rows of the first states.
use Rattle.std.proofs.Common.{◌≡◌, ◌<◌, ℕ, length}
use Rattle.xc_alg.specs.Products.{product}
use Rattle.xc_plain.specs.Successors.{IsRowOf, row_at}
use Rattle.xc_plain.proofs.steps.rows_of.Given as goal

abbrev pub invariant-loop-state : goal.invariant-loop-state
invariant-loop-state g l = record {
  count : length l.rows ≡ l.state;
  each : (s : ℕ) → s < l.state → IsRowOf (product (g.M.Framed.frame l.model).parts) (g.M.Framed.frame l.model).states ((g.M.Framed.frame l.model).relation s) (row_at l.rows s);
}
