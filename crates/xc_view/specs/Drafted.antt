-- What drafts of the code stand for.
-- Words for the steps of the code: public clauses do not rest on them.
use Rattle.std.specs.Prelude.{List}
use Rattle.xc_view_lines.specs.ViewLines.{Statement}
use Rattle.xc_view.specs.Drafts.{all_stated}
use Rattle.xc_view.specs.declared.draft.Draft.{Draft}

-- the statements of a draft
abbrev pub drafted : Draft → List Statement
drafted d = all_stated d.statements
