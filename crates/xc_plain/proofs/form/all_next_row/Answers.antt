use Rattle.std.proofs.Common.{ℕ, length, slice_index}
use Rattle.xc_alg.specs.Products.{product}
use Rattle.xc_plain.specs.Successors.{next_by}
use Rattle.xc_plain.proofs.Stepping.{each_made, next_made}
use Rattle.xc_plain.proofs.form.all_next_row.Goals as goal

pub returns-clause-value : goal.returns-clause-value
returns-clause-value g c =
    let n = length c.args.codes.now in
    let negated = λ (t : ℕ). (product (g.A.Algebra.parts c.args.algebra.now)).negation (slice_index c.args.codes.now t) in
    each_made (product (g.A.Algebra.parts c.args.algebra.now)).negation n (next_by (product (g.A.Algebra.parts c.args.algebra.now)) c.args.rows.now negated) _ _ _ c.as_slice-2.ensures
    (next_made (product (g.A.Algebra.parts c.args.algebra.now)) n c.args.rows.now negated _ _ _ c.requires.rows c.as_slice.ensures c.in_ok-negated.ensures.value c.in_ok-next.ensures.value) c.in_ok-row.ensures.value
