-- What holds of the variables of each view.
use Rattle.std.proofs.Common.{◌≡◌, ◌≤◌, true, List}
use Rattle.std.specs.List.{list_all}
use Rattle.std.proofs.lemmas.Bool.{and_parts, leb-true}
use Rattle.xc_theory.specs.Codes.{total}
use Rattle.xc_forms.specs.Variables.{are_fit, is_domain, sizes_of}
use Rattle.xc_forms.specs.declared.domain.Domain.{Domain}
use Rattle.xc_view.specs.ViewFiles.{ViewValue}
use Rattle.xc_view.specs.Parts.{is_sound}

-- the variables are fit
pub fit_of : (v : ViewValue) → is_sound v ≡ true → are_fit v.vars ≡ true
fit_of v h =
    let five = (and_parts _ _ (and_parts _ _ (and_parts _ _ (and_parts _ _ (and_parts _ _ h).0).0).0).0).0 in
    (and_parts _ _ (and_parts _ _ (and_parts _ _ five).0).0).1

-- fit variables have domains, and few states
pub domains_of : (vars : List Domain) → are_fit vars ≡ true → list_all is_domain vars ≡ true
domains_of vars h = (and_parts _ _ (and_parts _ _ h).0).1

pub few_of : (vars : List Domain) → are_fit vars ≡ true → total (sizes_of vars) ≤ 1048576
few_of vars h = leb-true (total (sizes_of vars)) 1048576 (and_parts _ _ h).1
