-- The table of the first n columns of some rows.
use Rattle.std.proofs.Common.{◌≡◌, ℕ, ◌<◌, Bool, false, List, [], length, take, get_or, ap, ◌∙◌}
use Rattle.std.proofs.lemmas.List.{get_or-map, get_or-take}
use Rattle.xc_theory.specs.Orders.{is_below}
use Rattle.xc_order.specs.Order.{table_of}

pub is_below-table_of : (n : ℕ) (rows : List (List Bool)) (a b : ℕ) → a < length rows → b < n → is_below (table_of n rows) a b ≡ is_below rows a b
is_below-table_of n rows a b a_in b_in =
    ap (λ (row : List Bool). get_or row b false) (get_or-map (take n) rows a [] [] a_in) ∙ get_or-take n (get_or rows a []) b false b_in
