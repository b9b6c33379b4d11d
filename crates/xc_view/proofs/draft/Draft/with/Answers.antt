use Rattle.xc_view.proofs.Stated.{vars_with, fair_with}
use Rattle.xc_view.proofs.draft.Draft.with.Goals as goal

pub invariant_of-result : goal.invariant_of-result
invariant_of-result c =
    record {
      same = vars_with c.args.self.statements c.push.new.self c.args.s c.args.self.vars c.push_var.new.vars c.in_ok-push.ensures.ok c.args.self.same c.in_ok-push_var.ensures;
      fair = fair_with c.args.self.statements c.push.new.self c.args.s c.in_ok-push.ensures.ok c.requires;
    }
