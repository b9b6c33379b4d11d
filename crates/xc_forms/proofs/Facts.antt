-- Variables at small cases whose values are known from outside: a wrong definition does not check here.
use Rattle.std.proofs.Common.{◌≡◌, ℕ, true, false, List, [], ◌∷◌, replicate, codes, refl}
use Rattle.xc_theory.specs.Codes.{total}
use Rattle.xc_forms.specs.declared.domain.Domain.{Domain}
use Rattle.xc_forms.specs.Variables.{are_fit, is_domain, state_limit}
use Rattle.xc_forms.specs.VariableNames.{is_variable_name, is_value_name}

abbrev x : List ℕ
x = codes "x"

abbrev y : List ℕ
y = codes "y"

abbrev o : List ℕ
o = codes "0"

-- `true` and `any` are no variables, `any` is no value, and `true` is one
pub names : (is_variable_name (codes "x") ≡ true) × (is_variable_name (codes "true") ≡ false) × (is_variable_name (codes "any") ≡ false)
    × (is_value_name (codes "any") ≡ false) × (is_value_name (codes "true") ≡ true) × (is_value_name (codes "a.b") ≡ false)
names = (refl, refl, refl, refl, refl, refl)

-- x and y have the values 0 and 1, and z has the values y and 1
abbrev vars : List Domain
vars =
    record { name = x; values = o ∷ codes "1" ∷ [] } ∷ record { name = y; values = o ∷ codes "1" ∷ [] }
    ∷ record { name = codes "z"; values = y ∷ codes "1" ∷ [] } ∷ []

-- from 2 to 16 values, and 1,048,576 states: so many as 20 variables of two values have
pub limits : (is_domain (record { name = x; values = o ∷ [] }) ≡ false) × (is_domain (record { name = x; values = o ∷ o ∷ [] }) ≡ false) × (are_fit vars ≡ true) × (are_fit [] ≡ false)
    × (total (replicate 20 2) ≡ state_limit)
limits = (refl, refl, refl, refl, refl)
