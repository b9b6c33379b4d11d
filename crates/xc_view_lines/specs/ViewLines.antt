-- The statements of viewpoint files, and which tokens are which statement.
use Rattle.std.specs.Prelude.{◌≡◌, ℕ, true, List, [], ◌∷◌, ◌++◌, codes}
use Rattle.xc_base.specs.Words.{is_name, is_file_word}
use Rattle.xc_forms.specs.declared.domain.Domain.{Domain}
use Rattle.xc_forms.specs.VariableLines.{var_tokens, is_var_line}
use Rattle.xc_expr.specs.Written.{Written, Assigned, IsGuard, IsAction}

-- a statement of a viewpoint file; guards and actions have names in place of variables and values
pub data Statement : Type 0 where
  View : List ℕ → Statement
  Lattice : List ℕ → Statement
  Var : Domain → Statement
  Init : Written → Statement
  Prop : List ℕ → List ℕ → Written → Statement
  Command : List ℕ → List ℕ → Written → List Assigned → Statement

-- the tokens are that statement
pub data IsStated : List (List ℕ) → Statement → Type 0 where
  view : (name : List ℕ) → is_name name ≡ true → IsStated (codes "view" ∷ name ∷ []) (View name)
  lattice : (file : List ℕ) → is_file_word file ≡ true → IsStated (codes "lattice" ∷ file ∷ []) (Lattice file)
  var : (domain : Domain) → is_var_line domain ≡ true → IsStated (var_tokens domain) (Var domain)
  init : (tokens : List (List ℕ)) (guard : Written) → IsGuard tokens guard → IsStated (codes "init" ∷ tokens) (Init guard)
  prop : (name value : List ℕ) (tokens : List (List ℕ)) (guard : Written) → is_name name ≡ true → is_name value ≡ true → IsGuard tokens guard → IsStated (codes "prop" ∷ name ∷ value ∷ codes "when" ∷ tokens) (Prop name value guard)
  command : (name value : List ℕ) (tokens more : List (List ℕ)) (guard : Written) (action : List Assigned)
      → is_name name ≡ true → is_name value ≡ true → IsGuard tokens guard → IsAction more action
      → IsStated (codes "command" ∷ name ∷ codes "with" ∷ value ∷ codes "when" ∷ tokens ++ codes "do" ∷ more) (Command name value guard action)
