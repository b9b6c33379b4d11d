-- What follows from the definitions, as statements that public functions carry.
use Rattle.std.specs.Prelude.{◌≡◌, ◌↔◌, ℕ, List, Some}
use Rattle.xc_formula.specs.Written.{Written, IsFormula}
use Rattle.xc_formula.specs.Reading.{formula_in}

-- tokens are the formula that is read, and no other
abbrev pub FormulasAreRead : Type 0
FormulasAreRead = (tokens : List (List ℕ)) (f : Written) → (formula_in tokens ≡ Some f) ↔ IsFormula tokens f

abbrev pub FormulasAreUnique : Type 0
FormulasAreUnique = (tokens : List (List ℕ)) (f g : Written) → IsFormula tokens f → IsFormula tokens g → f ≡ g
