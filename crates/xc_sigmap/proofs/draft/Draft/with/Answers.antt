use Rattle.xc_sigmap.proofs.Keeping.{names_with, fair_with}
use Rattle.xc_sigmap.proofs.draft.Draft.with.Goals as goal

pub invariant_of-result : goal.invariant_of-result
invariant_of-result c =
    record {
      same = names_with c.args.self.statements c.push.new.self c.args.s c.args.self.names c.in_ok-names.names c.in_ok-push.ensures.ok c.args.self.same c.in_ok-names.ensures;
      fair = fair_with c.args.self.statements c.push.new.self c.args.s c.in_ok-push.ensures.ok c.requires;
    }
