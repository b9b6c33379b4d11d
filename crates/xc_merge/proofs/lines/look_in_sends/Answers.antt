use Rattle.std.proofs.Common.{subst}
use Rattle.xc_sigmap_lines.specs.declared.parts.SendLine.{SendLine}
use Rattle.xc_view.specs.Views.{value_of as view_of}
use Rattle.xc_merge.specs.Faults.{IsFirstOf}
use Rattle.xc_merge.specs.Finding.{sent_by, sent}
use Rattle.xc_merge.proofs.Steps.{err_is, sent_stop}
use Rattle.xc_merge.proofs.lines.look_in_sends.Goals as goal

pub returns-in_err-look_in_send : goal.returns-in_err-look_in_send
returns-in_err-look_in_send c =
    let P : SendLine → Type 0 = λ l. IsFirstOf (sent_by c.args.viewpoint.now c.args.number (view_of c.args.view.now) l) c.in_err-look_in_send.field-0.0 in
    let all = sent c.args.viewpoint.now c.args.number (view_of c.args.view.now) c.args.lines.now in
    err_is all c.in_err-look_in_send.field-0.0
    (sent_stop c.args.viewpoint.now c.args.number (view_of c.args.view.now) c.args.lines.now c.loop-line.line-index c.line-item.result c.in_err-look_in_send.field-0.0 all
    c.loop-line-test.true c.loop-line.invariant (subst P c.line-item.is c.in_err-look_in_send.ensures))
    c.from_residual.result c.from_residual.ensures.1
