use Rattle.std.proofs.Common.{◌≡◌, ◌<◌, ◌≤◌, ◌∙◌, [], List, sym, ap, subst, length}
use Rattle.xc_sigmap.specs.Maps.{value_of as map_of}
use Rattle.xc_merge.specs.Merges.{Viewpoint}
use Rattle.xc_merge.specs.Merging.{viewpoint_of, merge_in}
use Rattle.xc_merge.specs.Faults.{IsFirstOf, viewpoint_faults, all_faults}
use Rattle.xc_merge.specs.Finding.{faults_from}
use Rattle.xc_merge.specs.declared.fault.MergeFault.{MergeFault}
use Rattle.xc_merge.proofs.Gathering.{viewpoint_there, all_from, err_if, viewpoints_more, viewpoints_stop, viewpoints_none}
use Rattle.xc_merge.proofs.find.find_fault.Goals as goal

pub returns-in_err-look_at-clause-err : goal.returns-in_err-look_at-clause-err
returns-in_err-look_at-clause-err c =
    let m = merge_in c.args.sigmap.now c.args.views.now in
    let n = length c.args.views.now in
    let there : c.loop-number.number < n = subst (λ k. c.loop-number.number < k) c.len-number-end.ensures c.loop-number-test.true in
    let same = viewpoint_there c.args.sigmap.now c.args.views.now c.loop-number.number c.get.result.now there ∙ ap viewpoint_of (sym c.get.ensures) in
    let P : Viewpoint → Type 0 = λ p. IsFirstOf (viewpoint_faults (map_of c.args.sigmap.now) c.loop-number.number p) c.in_err-look_at.field-0.0 in
    let Q : List MergeFault → Type 0 = λ faults. IsFirstOf faults c.in_err-look_at.field-0.0 in
    err_if (all_faults m) c.in_err-look_at.field-0.0
    (subst Q (all_from c.args.sigmap.now c.args.views.now)
    (viewpoints_stop m c.loop-number.number n c.in_err-look_at.field-0.0 (faults_from m 0 n) there c.loop-number.invariant (subst P (sym same) c.in_err-look_at.ensures)))
    c.from_residual.result c.from_residual.ensures.1

pub loop-number-preserved : goal.loop-number-preserved
loop-number-preserved c =
    let n = length c.args.views.now in
    let there : c.loop-number.number < n = subst (λ k. c.loop-number.number < k) c.len-number-end.ensures c.loop-number-test.true in
    let same = viewpoint_there c.args.sigmap.now c.args.views.now c.loop-number.number c.get.result.now there ∙ ap viewpoint_of (sym c.get.ensures) in
    let P : Viewpoint → Type 0 = λ p. viewpoint_faults (map_of c.args.sigmap.now) c.loop-number.number p ≡ [] in
    viewpoints_more (merge_in c.args.sigmap.now c.args.views.now) c.loop-number.number n there (subst P (sym same) c.in_ok-look_at.ensures) ∙ c.loop-number.invariant

pub returns-clause-ok : goal.returns-clause-ok
returns-clause-ok c =
    let n = length c.args.views.now in
    sym (all_from c.args.sigmap.now c.args.views.now) ∙ sym c.loop-number.invariant
    ∙ viewpoints_none (merge_in c.args.sigmap.now c.args.views.now) c.loop-number.number n (subst (λ k. k ≤ c.loop-number.number) c.len-number-end.ensures c.loop-number-test.false)
