-- The statement of a row, where it is due.
use Rattle.std.proofs.Common.{◌≡◌, ℕ, true, false, List, Option, Some, None, IfSome, refl, ◌∙◌, ap}
use Rattle.std.specs.Option.{option_map}
use Rattle.xc_view_lines.specs.ViewLines.{Statement}
use Rattle.xc_view_lines.specs.LineReading.{line}
use Rattle.xc_view_lines.specs.Statements.{stated}
use Rattle.xc_view_lines.specs.declared.statement.Statement as code
use Rattle.xc_view.specs.ViewFiles.{is_due}
use Rattle.xc_view.specs.Deciding.{placed, decide}
use Rattle.xc_view.specs.Drafts.{is_placed}

module _ (before : List Statement) where
  same_where : (o : Option code.Statement) → is_placed before (option_map stated o) ≡ true → option_map stated o ≡ placed before (option_map stated o)
  same_where None h = refl
  same_where (Some s) h = rw h

  none_where : (o : Option code.Statement) → is_placed before (option_map stated o) ≡ false → None ≡ placed before (option_map stated o)
  none_where None h = refl
  none_where (Some s) h = rw h

  pub placed_is_due : (o : Option code.Statement) → is_placed before (option_map stated o) ≡ true → IfSome o (λ s. is_due before (stated s) ≡ true)
  placed_is_due None h = tt
  placed_is_due (Some s) h = h

  -- as it is read from tokens
  module _ (tokens : List (List ℕ)) (o : Option code.Statement) (read : option_map stated o ≡ line tokens) where
    pub decided : is_placed before (option_map stated o) ≡ true → option_map stated o ≡ decide before tokens
    unfolding decide
    decided h = same_where o h ∙ ap (placed before) read

    pub undecided : is_placed before (option_map stated o) ≡ false → None ≡ decide before tokens
    unfolding decide
    undecided h = none_where o h ∙ ap (placed before) read
