-- Where the variables from one on go, for a loop over them.
use Rattle.std.specs.Prelude.{ℕ, ◌-◌, Bool, List, length}
use Rattle.std.specs.List.{list_all, range_with_len}
use Rattle.xc_expr.specs.Actions.{may_go}
use Rattle.xc_expr.specs.declared.assign.Assign.{Assign}

-- whether a variable may go from its place to the other
unfoldable pub goes_at : List ℕ → List Assign → List ℕ → List ℕ → ℕ → Bool
goes_at sizes action from to x = may_go sizes action from to x

-- whether each variable from that one on may
unfoldable pub goes_from : List ℕ → List Assign → List ℕ → List ℕ → ℕ → Bool
goes_from sizes action from to x = list_all (may_go sizes action from to) (range_with_len x (length sizes - x))
