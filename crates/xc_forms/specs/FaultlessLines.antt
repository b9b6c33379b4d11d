-- What holds of the variables of faultless statements.
-- Words for the steps of the code: public clauses of formats do not rest on them.
use Rattle.std.specs.Prelude.{◌≡◌, ◌≤◌, ℕ, true, false, List, [], ◌∷◌, ◌++◌}
use Rattle.std.specs.List.{list_all}
use Rattle.xc_theory.specs.Codes.{total}
use Rattle.xc_base.specs.Names.{has_twice}
use Rattle.xc_base.specs.Formats.{Format, IsFaultless}
use Rattle.xc_forms.specs.Variables.{names_of, sizes_of, is_domain, state_limit}
use Rattle.xc_forms.specs.declared.domain.Domain.{Domain}

-- no variables, or fit ones: different names, each with 2 to 16 different values, and not too many states
pub record AreSized (vars : List Domain) : Type 0 where
  pub different : has_twice (names_of vars) ≡ false
  pub domains : list_all is_domain vars ≡ true
  pub states : total (sizes_of vars) ≤ state_limit

-- each statement is faultless after those before it
abbrev pub AreFaultless : {S V : Type 0} → Format S V → (S → List (List ℕ)) → List S → List S → Type 0
AreFaultless format spelling before [] = Unit {0}
AreFaultless format spelling before (s ∷ more) = IsFaultless format before (spelling s) s × AreFaultless format spelling (before ++ s ∷ []) more
