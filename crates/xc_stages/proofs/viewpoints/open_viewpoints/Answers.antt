use Rattle.std.proofs.Common.{rules, ◌≡◌, length, ◌∙◌, ap, arith, length-append, [], ◌∷◌}
use Rattle.xc_sigmap.specs.Maps.{value_of as map_of}
use Rattle.xc_stages.proofs.Chaining.{one_opened, one_stopped, one_wants, all_opened}
use Rattle.xc_stages.proofs.viewpoints.open_viewpoints.Goals as goal

pub returns-in_err-viewpoint-clause-stops : goal.returns-in_err-viewpoint-clause-stops
returns-in_err-viewpoint-clause-stops g c =
    let file : c.as_str.result.now ≡ c.used-item.result.file = search rules in
    one_stopped c.as_slice-used-items.result.now c.loop-used.used-index c.loop-used.views (g.S.Shelf.seen c.args.shelf.now) (g.S.Shelf.seen c.loop-used.shelf) c.loop-used.invariant.1
    c.used-item.result c.as_str.result.now (g.S.Shelf.seen c.open_viewpoint.new.shelf) c.loop-used-test.true c.used-item.is file (map_of c.args.sigmap.now).uses (c.as_slice-used-items.ensures ∙ c.uses.ensures)
    c.from_residual.result c.in_err-viewpoint.field-0.0 c.from_residual.ensures.1 c.in_err-viewpoint.ensures.stops

pub returns-in_err-push-clause-stops : goal.returns-in_err-push-clause-stops
returns-in_err-push-clause-stops g c =
    let file : c.as_str.result.now ≡ c.used-item.result.file = search rules in
    one_wants c.as_slice-used-items.result.now c.loop-used.used-index c.loop-used.views (g.S.Shelf.seen c.args.shelf.now) (g.S.Shelf.seen c.loop-used.shelf) c.loop-used.invariant.1
    c.used-item.result c.as_str.result.now (g.S.Shelf.seen c.open_viewpoint.new.shelf) c.loop-used-test.true c.used-item.is file (map_of c.args.sigmap.now).uses (c.as_slice-used-items.ensures ∙ c.uses.ensures)
    c.in_ok-viewpoint.viewpoint c.from_residual-in_err-push.result c.from_residual-in_err-push.ensures.1 c.in_ok-viewpoint.ensures.goes_on

pub loop-used-preserved : goal.loop-used-preserved
loop-used-preserved g c =
    let file : c.as_str.result.now ≡ c.used-item.result.file = search rules in (
      omega (arith, ap (λ vs. length vs) c.in_ok-push.ensures.ok ∙ length-append c.loop-used.views (c.in_ok-viewpoint.viewpoint ∷ []), c.loop-used.invariant.0),
      one_opened c.as_slice-used-items.result.now c.loop-used.used-index c.loop-used.views (g.S.Shelf.seen c.args.shelf.now) (g.S.Shelf.seen c.loop-used.shelf) c.loop-used.invariant.1
          c.used-item.result c.as_str.result.now (g.S.Shelf.seen c.open_viewpoint.new.shelf) c.loop-used-test.true c.used-item.is file
          c.in_ok-viewpoint.viewpoint c.push.new.self c.in_ok-viewpoint.ensures.goes_on c.in_ok-push.ensures.ok,
    )

pub returns-clause-goes_on : goal.returns-clause-goes_on
returns-clause-goes_on g c =
    all_opened c.as_slice-used-items.result.now c.loop-used.used-index c.loop-used.views (g.S.Shelf.seen c.args.shelf.now) (g.S.Shelf.seen c.loop-used.shelf) c.loop-used.invariant.1 (map_of c.args.sigmap.now).uses (c.as_slice-used-items.ensures ∙ c.uses.ensures) c.loop-used-test.false
