use Rattle.std.proofs.Common.{◌≡◌, [], ◌∙◌, subst}
use Rattle.xc_forms.specs.declared.domain.Domain.{Domain}
use Rattle.xc_sigmap.specs.Maps.{value_of as map_of}
use Rattle.xc_merge.specs.Faults.{IsFirstOf}
use Rattle.xc_merge.specs.Finding.{unfed_by, unfed}
use Rattle.xc_merge.proofs.Steps.{err_is, unfed_stop, unfed_more}
use Rattle.xc_merge.proofs.feeding.look_for_feeds.Goals as goal

pub returns-in_err-look_for_feed : goal.returns-in_err-look_for_feed
returns-in_err-look_for_feed c =
    let P : Domain → Type 0 = λ d. IsFirstOf (unfed_by c.args.viewpoint.now (map_of c.args.sigmap.now) c.args.number d) c.in_err-look_for_feed.field-0.0 in
    let all = unfed c.args.viewpoint.now (map_of c.args.sigmap.now) c.args.number c.args.vars.now in
    err_is all c.in_err-look_for_feed.field-0.0
    (unfed_stop c.args.viewpoint.now (map_of c.args.sigmap.now) c.args.number c.args.vars.now c.loop-domain.domain-index c.domain-item.result c.in_err-look_for_feed.field-0.0 all
    c.loop-domain-test.true c.loop-domain.invariant (subst P c.domain-item.is c.in_err-look_for_feed.ensures))
    c.from_residual.result c.from_residual.ensures.1

pub loop-domain-preserved : goal.loop-domain-preserved
loop-domain-preserved c =
    let P : Domain → Type 0 = λ d. unfed_by c.args.viewpoint.now (map_of c.args.sigmap.now) c.args.number d ≡ [] in
    unfed_more c.args.viewpoint.now (map_of c.args.sigmap.now) c.args.number c.args.vars.now c.loop-domain.domain-index c.domain-item.result c.loop-domain-test.true
    (subst P c.domain-item.is c.in_ok-look_for_feed.ensures)
    ∙ c.loop-domain.invariant
