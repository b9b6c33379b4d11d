use Rattle.std.proofs.Common.{◌≡◌, map, take, drop}
use Rattle.xc_order.specs.Closure.{joined_row}
use Rattle.xc_order.proofs.closure.close_through.Given as goal

abbrev pub invariant-loop-row : goal.invariant-loop-row
invariant-loop-row l =
    (take l.row-index l.rows ≡ map (joined_row l.k l.via) (take l.row-index l.fn.rows)) × (drop l.row-index l.rows ≡ drop l.row-index l.fn.rows)
