use Rattle.std.proofs.Common.{length, slice_index}
use Rattle.xc_alg.specs.Products.{product}
use Rattle.xc_plain.specs.Successors.{next_by}
use Rattle.xc_plain.proofs.Stepping.{beside_made}
use Rattle.xc_plain.proofs.form.always_row.Goals as goal

pub returns-clause-value : goal.returns-clause-value
returns-clause-value g c =
    beside_made (product (g.A.Algebra.parts c.args.algebra.now)).meet (length c.args.codes.now) (next_by (product (g.A.Algebra.parts c.args.algebra.now)) c.args.rows.now (slice_index c.args.codes.now)) c.args.left.now _ _ _ c.as_slice.ensures c.in_ok-next.ensures.value c.in_ok-row.ensures.value
