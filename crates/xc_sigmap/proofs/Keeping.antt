-- Drafts with one statement more.
use Rattle.std.proofs.Common.{◌≡◌, List, [], ◌∷◌, ◌++◌, sym, subst}
use Rattle.xc_sigmap.specs.declared.names.Names.{Names}
use Rattle.xc_sigmap_lines.specs.declared.statement.Statement.{Statement}
use Rattle.xc_sigmap_lines.specs.MapFiles.{uses_of, vars_of, props_of}
use Rattle.xc_sigmap.specs.Drafts.{IsFair}
use Rattle.xc_sigmap.specs.Drafted.{named_in}
use Rattle.xc_sigmap.proofs.Fair.{uses_append, vars_append, props_append}

-- what they declare
pub names_with : (ss all : List Statement) (s : Statement) (names more : Names) → all ≡ ss ++ s ∷ [] → names ≡ named_in ss
    → more ≡ record { uses = names.uses ++ uses_of (s ∷ []); vars = names.vars ++ vars_of (s ∷ []); props = names.props ++ props_of (s ∷ []) }
    → more ≡ named_in all
names_with ss all s names more together same new =
    rw (new, same, together, uses_append ss (s ∷ []), vars_append ss (s ∷ []), props_append ss (s ∷ []))

-- and that they are fair
pub fair_with : (ss all : List Statement) (s : Statement) → all ≡ ss ++ s ∷ [] → IsFair (ss ++ s ∷ []) → IsFair all
fair_with ss all s together h = subst IsFair (sym together) h
