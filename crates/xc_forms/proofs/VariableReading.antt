-- The variable that a line declares is spelled so, and what is spelled so is declared.
use Rattle.std.proofs.Common.{◌≡◌, ℕ, Bool, true, false, if◌then◌else◌, List, [], ◌∷◌, Some, None, codes, refl, ap, subst}
use Rattle.std.proofs.lemmas.Option.{none-some, same_Some}
use Rattle.xc_forms.specs.declared.domain.Domain.{Domain}
use Rattle.xc_forms.specs.VariableLines.{var_tokens, is_var_line}
use Rattle.xc_forms.specs.VariableReading.{var_line}

-- what a test lets through
given : {X : Type 0} (b : Bool) (x y : X) → (if b then Some x else None) ≡ Some y → (b ≡ true) × (x ≡ y)
given true x y h = (refl, same_Some _ _ h)
given false x y h = absurd (none-some y h)

-- the tokens declare it
pub var_sound : (tokens : List (List ℕ)) (d : Domain) → var_line tokens ≡ Some d → (codes "var" ∷ tokens ≡ var_tokens d) × (is_var_line d ≡ true)
var_sound [] d h = absurd (none-some d h)
var_sound (name ∷ values) d h =
    let own : Domain = record { name = name; values = values } in
    let parts = given (is_var_line own) own d h in
    (ap var_tokens parts.1, subst (λ (e : Domain). is_var_line e ≡ true) parts.1 parts.0)

pub var_complete : (d : Domain) → is_var_line d ≡ true → var_line (d.name ∷ d.values) ≡ Some d
var_complete d h = rw h
