use Rattle.std.proofs.Common.{length, slice_index, refl}
use Rattle.xc_alg.specs.Products.{product}
use Rattle.xc_plain.specs.Told.{step_by, goes_up}
use Rattle.xc_plain.proofs.Rising.{step_by_monotone}
use Rattle.xc_plain.proofs.Settling.{equal_rows, iterates_begun, rounds_begun, iterates_more, round_next, rounds_left, rounds_settled}
use Rattle.xc_plain.proofs.Joining.{row_again}
use Rattle.xc_plain.proofs.settle.rounds_of.Goals as goal

pub rounds-init : goal.rounds-init
rounds-init g c =
    record {
      iterates = iterates_begun (product (g.A.Algebra.parts c.args.algebra.now)) (g.met.A.Algebra.laws c.args.algebra.now) (goes_up c.args.form) (length c.args.rows.now) (step_by (product (g.A.Algebra.parts c.args.algebra.now)) c.args.rows.now c.args.form (slice_index c.args.left.now) (slice_index c.args.right.now)) _ c.new-iterates.ensures;
      row = c.in_ok-row.ensures.range;
      round = rounds_begun (product (g.A.Algebra.parts c.args.algebra.now)) (g.met.A.Algebra.laws c.args.algebra.now) (goes_up c.args.form) (length c.args.rows.now) (step_by (product (g.A.Algebra.parts c.args.algebra.now)) c.args.rows.now c.args.form (slice_index c.args.left.now) (slice_index c.args.right.now)) (step_by_monotone (product (g.A.Algebra.parts c.args.algebra.now)) (g.met.A.Algebra.laws c.args.algebra.now) (length c.args.rows.now) c.args.rows.now c.requires.rows c.args.form (slice_index c.args.left.now) (slice_index c.args.right.now) c.requires.left.range c.requires.right.range) _ _ _ c.new-iterates.ensures c.in_ok-row.ensures.value c.start_of.ensures.value;
    }

pub rounds-preserved : goal.rounds-preserved
rounds-preserved g c =
    record {
      iterates = iterates_more (product (g.A.Algebra.parts c.args.algebra.now)) (g.met.A.Algebra.laws c.args.algebra.now) (goes_up c.args.form) (length c.args.rows.now) (step_by (product (g.A.Algebra.parts c.args.algebra.now)) c.args.rows.now c.args.form (slice_index c.args.left.now) (slice_index c.args.right.now)) _ _ c.rounds.row c.rounds.invariant.iterates c.rounds.invariant.row c.rounds.invariant.round c.in_ok-push.ensures.ok;
      row = row_again _ _ _ _ _ c.rounds.invariant.row c.as_slice.ensures c.in_ok-next.ensures.range;
      round = round_next (product (g.A.Algebra.parts c.args.algebra.now)) (g.met.A.Algebra.laws c.args.algebra.now) (goes_up c.args.form) (length c.args.rows.now) (step_by (product (g.A.Algebra.parts c.args.algebra.now)) c.args.rows.now c.args.form (slice_index c.args.left.now) (slice_index c.args.right.now)) (step_by_monotone (product (g.A.Algebra.parts c.args.algebra.now)) (g.met.A.Algebra.laws c.args.algebra.now) (length c.args.rows.now) c.args.rows.now c.requires.rows c.args.form (slice_index c.args.left.now) (slice_index c.args.right.now) c.requires.left.range c.requires.right.range) c.rounds.iterates _ c.rounds.row c.as_slice.result.now c.in_ok-next.next _ c.rounds.invariant.row c.rounds.invariant.round c.as_slice.ensures refl c.in_ok-next.ensures.value c.in_ok-push.ensures.ok ((equal_rows _ _ c.in_ok-next.next c.rounds.row c.eq-settled.result c.as_slice-in-rounds.ensures c.as_slice-in-rounds-2.ensures c.eq-settled.ensures).1 c.if-settled.false);
    }

pub rounds-smaller : goal.rounds-smaller
rounds-smaller g c = rounds_left (product (g.A.Algebra.parts c.args.algebra.now)) (g.met.A.Algebra.laws c.args.algebra.now) (goes_up c.args.form) (length c.args.rows.now) (step_by (product (g.A.Algebra.parts c.args.algebra.now)) c.args.rows.now c.args.form (slice_index c.args.left.now) (slice_index c.args.right.now)) (step_by_monotone (product (g.A.Algebra.parts c.args.algebra.now)) (g.met.A.Algebra.laws c.args.algebra.now) (length c.args.rows.now) c.args.rows.now c.requires.rows c.args.form (slice_index c.args.left.now) (slice_index c.args.right.now) c.requires.left.range c.requires.right.range) c.rounds.iterates _ c.rounds.row c.as_slice.result.now c.in_ok-next.next _ c.rounds.invariant.row c.rounds.invariant.round c.as_slice.ensures refl c.in_ok-next.ensures.value c.in_ok-push.ensures.ok ((equal_rows _ _ c.in_ok-next.next c.rounds.row c.eq-settled.result c.as_slice-in-rounds.ensures c.as_slice-in-rounds-2.ensures c.eq-settled.ensures).1 c.if-settled.false)

pub returns-then-settled : goal.returns-then-settled
returns-then-settled g c = rounds_settled (product (g.A.Algebra.parts c.args.algebra.now)) (g.met.A.Algebra.laws c.args.algebra.now) (goes_up c.args.form) (length c.args.rows.now) (step_by (product (g.A.Algebra.parts c.args.algebra.now)) c.args.rows.now c.args.form (slice_index c.args.left.now) (slice_index c.args.right.now)) (step_by_monotone (product (g.A.Algebra.parts c.args.algebra.now)) (g.met.A.Algebra.laws c.args.algebra.now) (length c.args.rows.now) c.args.rows.now c.requires.rows c.args.form (slice_index c.args.left.now) (slice_index c.args.right.now) c.requires.left.range c.requires.right.range) c.rounds.iterates _ c.rounds.row c.as_slice.result.now c.in_ok-next.next _ c.rounds.invariant.row c.rounds.invariant.round c.as_slice.ensures refl c.in_ok-next.ensures.value c.in_ok-push.ensures.ok c.rounds.invariant.iterates ((equal_rows _ _ c.in_ok-next.next c.rounds.row c.eq-settled.result c.as_slice-in-rounds.ensures c.as_slice-in-rounds-2.ensures c.eq-settled.ensures).0 c.if-settled.true)
