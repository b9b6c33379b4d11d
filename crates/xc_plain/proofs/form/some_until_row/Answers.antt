use Rattle.std.proofs.Common.{length, slice_index}
use Rattle.xc_alg.specs.Products.{product}
use Rattle.xc_plain.specs.Told.{always_by}
use Rattle.xc_plain.proofs.Stepping.{beside_made}
use Rattle.xc_plain.proofs.form.some_until_row.Goals as goal

pub returns-clause-value : goal.returns-clause-value
returns-clause-value g c =
    beside_made (product (g.A.Algebra.parts c.args.algebra.now)).join (length c.args.codes.now) (always_by (product (g.A.Algebra.parts c.args.algebra.now)) c.args.rows.now (slice_index c.args.left.now) (slice_index c.args.codes.now)) c.args.right.now _ _ _ c.as_slice.ensures c.in_ok-later.ensures.value c.in_ok-row.ensures.value
