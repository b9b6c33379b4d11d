-- Texts that are read as guards and actions.
use Rattle.std.specs.Prelude.{◌≡◌, ℕ, List, [], ◌∷◌, ◌++◌}
use Rattle.xc_base.specs.Lines.{text_rows}
use Rattle.xc_expr.specs.Outcomes.{IsTest, AreAssigns}
use Rattle.xc_expr.specs.Tests.{Test}
use Rattle.xc_expr.specs.declared.assign.Assign.{Assign}
use Rattle.xc_forms.specs.declared.domain.Domain.{Domain}

-- with a line end the text is one line, and its tokens are the test
pub record IsTextOfTest (vars : List Domain) (test : Test) (text : List ℕ) : Type 0 where
  pub tokens : List (List ℕ)
  pub cut : text_rows (text ++ 10 ∷ []) ≡ record { number = 1; tokens = tokens } ∷ []
  pub read : IsTest vars tokens test

-- the same of assignments
pub record IsTextOfAssigns (vars : List Domain) (assigns : List Assign) (text : List ℕ) : Type 0 where
  pub tokens : List (List ℕ)
  pub cut : text_rows (text ++ 10 ∷ []) ≡ record { number = 1; tokens = tokens } ∷ []
  pub read : AreAssigns vars tokens assigns
