use Rattle.std.proofs.Common.{sym, ◌∙◌, ap}
use Rattle.std.proofs.lemmas.Bool.{not-true}
use Rattle.xc_view_lines.specs.Statements.{stated}
use Rattle.xc_view.specs.Drafts.{is_known}
use Rattle.xc_view_lines.specs.declared.statement.Statement as code
use Rattle.xc_view.proofs.Gathering.{known_at}
use Rattle.xc_view.proofs.gather.init_guard.Goals as goal

pub known_guard-requires-clause-known : goal.known_guard-requires-clause-known
known_guard-requires-clause-known c =
    not-true _
    (ap (λ (s : code.Statement). is_known c.args.vars.now (stated s)) (sym c.in-Init.is ∙ c.s-item.is)
    ∙ known_at c.args.vars.now c.args.statements.now c.loop-s.s-index c.s-item.result c.requires.known c.loop-s-test.true)
