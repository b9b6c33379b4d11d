-- What the names of drafts are.
-- Words for the steps of the code: public clauses do not rest on them.
use Rattle.std.specs.Prelude.{◌≡◌, ◌≤◌, Bool, true, List, length}
use Rattle.xc_forms.specs.Variables.{are_fit}
use Rattle.xc_sigmap.specs.declared.names.Names.{Names}
use Rattle.xc_sigmap_lines.specs.declared.statement.Statement.{Statement}
use Rattle.xc_sigmap_lines.specs.MapFiles.{uses_of, vars_of, props_of, use_limit, prop_limit}
use Rattle.xc_sigmap.specs.Drafts as drafts

-- what statements declare
abbrev pub named_in : List Statement → Names
named_in ss = record { uses = uses_of ss; vars = vars_of ss; props = props_of ss }

-- whether what a statement names is declared
abbrev pub is_known : Names → Statement → Bool
is_known names s = drafts.is_known names.uses names.vars names.props s

-- the limits of what is declared
pub record AreFew (names : Names) : Type 0 where
  pub uses : length names.uses ≤ use_limit
  pub fit : are_fit names.vars ≡ true
  pub props : length names.props ≤ prop_limit
