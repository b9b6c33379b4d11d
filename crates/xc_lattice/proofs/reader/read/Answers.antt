use Rattle.std.proofs.Common.{List, sym, ◌∙◌, ap, subst}
use Rattle.xc_base.specs.Lines.{rows_in}
use Rattle.xc_lattice.specs.declared.statement.Statement.{Statement}
use Rattle.xc_lattice.specs.LatticeFiles.{missing_part, Says}
use Rattle.xc_lattice.specs.Drafts.{IsDraft}
use Rattle.xc_lattice.specs.Values.{said}
use Rattle.xc_lattice.proofs.Judged.{no_part_lacks, file_is_draft, file_is_ready, admitted_is_verdict, refused_is_fault, stopped_is_fault}
use Rattle.xc_lattice.proofs.reader.read.Goals as goal

pub gather-requires-clause-draft : goal.gather-requires-clause-draft
gather-requires-clause-draft c =
    subst (λ (ss : List Statement). IsDraft ss) (sym c.as_slice.ensures)
    (file_is_draft (rows_in c.args.lines.now) c.in_ok-statements.statements c.in_ok-statements.ensures)

pub gather-requires-clause-whole : goal.gather-requires-clause-whole
gather-requires-clause-whole c =
    ap missing_part c.as_slice.ensures ∙ no_part_lacks (rows_in c.args.lines.now) c.in_ok-statements.statements c.in_ok-statements.ensures

pub admit-requires : goal.admit-requires
admit-requires c =
    file_is_ready (rows_in c.args.lines.now) c.in_ok-statements.statements (said c.in_ok-draft.draft) c.in_ok-statements.ensures
    (subst (λ (ss : List Statement). Says ss (said c.in_ok-draft.draft)) c.as_slice.ensures c.in_ok-draft.ensures)

pub returns-clause-ok : goal.returns-clause-ok
returns-clause-ok c =
    admitted_is_verdict (rows_in c.args.lines.now) c.in_ok-statements.statements (said c.in_ok-draft.draft) c.in_ok-statements.ensures
    (subst (λ (ss : List Statement). Says ss (said c.in_ok-draft.draft)) c.as_slice.ensures c.in_ok-draft.ensures) c.admit.result c.admit.ensures.ok

pub returns-clause-err : goal.returns-clause-err
returns-clause-err c =
    refused_is_fault (rows_in c.args.lines.now) c.in_ok-statements.statements (said c.in_ok-draft.draft) c.in_ok-statements.ensures
    (subst (λ (ss : List Statement). Says ss (said c.in_ok-draft.draft)) c.as_slice.ensures c.in_ok-draft.ensures) c.admit.result c.admit.ensures.err

pub returns-in_err-statements-clause-err : goal.returns-in_err-statements-clause-err
returns-in_err-statements-clause-err c =
    stopped_is_fault (rows_in c.args.lines.now) c.in_err-statements.field-0.0 c.in_err-statements.ensures c.from_residual.result c.from_residual.ensures.1
