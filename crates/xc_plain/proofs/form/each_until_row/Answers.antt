use Rattle.std.proofs.Common.{ℕ, length, slice_index}
use Rattle.xc_alg.specs.Products.{product}
use Rattle.xc_plain.specs.Successors.{next_by}
use Rattle.xc_plain.specs.Told.{all_next_by}
use Rattle.xc_plain.proofs.Stepping.{beside_made, both_made}
use Rattle.xc_plain.proofs.form.each_until_row.Goals as goal

pub returns-clause-value : goal.returns-clause-value
returns-clause-value g c =
    let o = (product (g.A.Algebra.parts c.args.algebra.now)) in
    let n = length c.args.codes.now in
    let all = all_next_by o c.args.rows.now (slice_index c.args.codes.now) in
    let some = next_by o c.args.rows.now (slice_index c.args.codes.now) in
    let both = λ (s : ℕ). o.meet (all s) (some s) in
    beside_made o.join n (λ s. o.meet (slice_index c.args.left.now s) (both s)) c.args.right.now _ _ _ c.as_slice-4.ensures
    (beside_made o.meet n both c.args.left.now _ _ _ c.as_slice-3.ensures
    (both_made o.meet n all some _ _ _ _ _ c.as_slice.ensures c.in_ok-all.ensures.value c.as_slice-2.ensures c.in_ok-some.ensures.value c.in_ok-both.ensures.value)
    c.in_ok-later.ensures.value) c.in_ok-row.ensures.value
