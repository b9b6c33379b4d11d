-- Pairs of elements span a table.
use Rattle.std.proofs.Common.{ℕ, zero, suc, ◌<◌, ◌≤◌, Bool, List, length, add-one, arith}
use Rattle.xc_theory.specs.Orders.{IsSpannedBy}
use Rattle.xc_order.specs.declared.order.Pair.{Pair}
use Rattle.xc_order.specs.Pairs.{IsListed, AreBelow}
use Rattle.xc_order.specs.Order.{IsMatrix, table_of}
use Rattle.xc_order.specs.Closure.{own_rows, HasPairs, ClosesBelow}
use Rattle.xc_order.proofs.Rows.{own_rows_start, pairs_more, closes_none, closes_more, spans}

-- rows that have the first pairs
with_pairs : (n : ℕ) (pairs : List Pair) → n ≤ 64 → AreBelow n pairs → (i : ℕ) → i ≤ length pairs → (rows : List (List Bool)) × HasPairs n pairs i rows
with_pairs n pairs limit below zero h = (own_rows n, own_rows_start n pairs limit)
with_pairs n pairs limit below (suc i) h =
    let rest = with_pairs n pairs limit below i (omega arith) in
    (_, rw add-one at (pairs_more n pairs i (record { low = 0; high = 0 }) rest.0 limit below (omega arith) rest.1))

-- rows that are closed through the first elements
closed_below : (n : ℕ) (old : List (List Bool)) → n ≤ 64 → IsMatrix n old → (k : ℕ) → k ≤ n → (rows : List (List Bool)) × ClosesBelow n k old rows
closed_below n old limit matrix zero h = (old, closes_none n old matrix)
closed_below n old limit matrix (suc k) h =
    let rest = closed_below n old limit matrix k (omega arith) in
    (_, rw add-one at (closes_more n k old rest.0 limit (omega arith) rest.1))

pub spanned_table : (n : ℕ) (pairs : List Pair) → 0 < n → n ≤ 64 → AreBelow n pairs → (table : List (List Bool)) × IsSpannedBy n (IsListed pairs) table
spanned_table n pairs positive limit below =
    let old = with_pairs n pairs limit below (length pairs) (omega arith) in
    let new = closed_below n old.0 limit old.1.matrix n (omega arith) in
    (table_of n new.0, (spans n pairs old.0 new.0 positive limit below old.1 new.1).spanned)
