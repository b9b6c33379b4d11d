-- The statements of drafts.
-- Words for the steps of the code: public clauses do not rest on them.
use Rattle.std.specs.Prelude.{List}
use Rattle.xc_sigmap_lines.specs.declared.statement.Statement.{Statement}
use Rattle.xc_sigmap.specs.declared.draft.Draft.{Draft}

abbrev pub drafted : Draft → List Statement
drafted d = d.statements
