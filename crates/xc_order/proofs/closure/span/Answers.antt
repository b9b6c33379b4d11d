use Rattle.xc_order.proofs.Rows.{own_rows_start, spans}
use Rattle.xc_order.proofs.closure.span.Goals as goal

pub add_pairs-requires-clause-rows : goal.add_pairs-requires-clause-rows
add_pairs-requires-clause-rows c = rw c.requires.rows (own_rows_start _ _ c.requires.limit)

pub returns : goal.returns
returns c = spans _ _ _ _ c.requires.positive c.requires.limit c.requires.pairs c.add_pairs.ensures c.close.ensures
