-- How many states there are over variables, and how many variables there may be.
use Rattle.std.proofs.Common.{◌≡◌, ℕ, zero, suc, ◌*◌, ◌^◌, ◌<◌, ◌≤◌, true, List, [], ◌∷◌, ◌++◌, length, inl, inr, sym, ◌∙◌, ap, arith}
use Rattle.std.specs.List.{list_all}
use Rattle.std.proofs.lemmas.Bool.{and_parts, and_from, leb-true, le-leb, not_from_false, cases_lt}
use Rattle.std.proofs.Math.Nat.{mul_assoc, mul-le-mul_left, pow-succ'}
use Rattle.xc_theory.specs.Codes.{total}
use Rattle.xc_base.specs.Names.{has_twice}
use Rattle.xc_forms.specs.Variables.{sizes_of, names_of, is_domain, are_fit, state_limit}
use Rattle.xc_forms.specs.declared.domain.Domain.{Domain}
use Rattle.xc_forms.specs.FaultlessLines.{AreSized}

-- one size more
pub total_push : (sizes : List ℕ) (size : ℕ) → total (sizes ++ size ∷ []) ≡ total sizes * size
total_push [] size = omega arith
total_push (n ∷ sizes) size = ap (λ (m : ℕ). n * m) (total_push sizes size) ∙ sym (mul_assoc n (total sizes) size)

-- each variable has a value
pub at_least_two : (d : Domain) → is_domain d ≡ true → 2 ≤ length d.values
at_least_two d h = leb-true 2 (length d.values) (and_parts _ _ (and_parts _ _ h).0).0

-- each variable doubles the states at least
pub power_below : (k : ℕ) (vars : List Domain) → k ≤ length vars → list_all is_domain vars ≡ true → 2 ^ k ≤ total (sizes_of vars)
power_below zero [] low h = omega arith
power_below (suc k) [] low h = absurd (omega arith)
power_below zero (d ∷ vars) low h =
    let parts = and_parts (is_domain d) (list_all is_domain vars) h in
    let rest = power_below zero vars (omega arith) parts.1 in
    omega (arith, mul-le-mul_left (total (sizes_of vars)) (at_least_two d parts.0))
power_below (suc k) (d ∷ vars) low h =
    let parts = and_parts (is_domain d) (list_all is_domain vars) h in
    let rest = power_below k vars (omega arith) parts.1 in
    omega (arith, pow-succ' 2 k, mul-le-mul_left (total (sizes_of vars)) (at_least_two d parts.0))

-- so there are at most 20 of them
few_vars : (vars : List Domain) → AreSized vars → length vars ≤ 20
few_vars vars h =
    elim (cases_lt 20 (length vars)) [
      | inl many ↦ absurd (omega (arith, power_below 21 vars (omega arith) h.domains, h.states))
      | inr few ↦ few
    ]

-- sized variables are fit where there is one
pub fit_from_sized : (vars : List Domain) → AreSized vars → 0 < length vars → are_fit vars ≡ true
fit_from_sized vars h some =
    and_from _ _
    (and_from _ _ (and_from _ _ (and_from _ _ (le-leb 1 (length vars) (omega arith)) (le-leb (length vars) 20 (few_vars vars h))) (not_from_false (has_twice (names_of vars)) h.different)) h.domains)
    (le-leb (total (sizes_of vars)) state_limit h.states)
