-- How many states there are, as a loop multiplies sizes from the last one on.
use Rattle.std.proofs.Common.{◌≡◌, ℕ, zero, suc, ◌+◌, ◌-◌, ◌*◌, ◌<◌, ◌≤◌, true, List, [], ◌∷◌, length, drop, drop-cons, add-one, get_or, refl, sym, ◌∙◌, ap, arith}
use Rattle.std.specs.List.{list_all}
use Rattle.std.proofs.Math.Nat.{mul_comm}
use Rattle.std.proofs.lemmas.Bool.{and_parts, leb-true}
use Rattle.std.proofs.lemmas.List.{drop_all}
use Rattle.std.proofs.lemmas.List.Sums.{AllPass-from_list_all}
use Rattle.xc_theory.specs.Codes.{total}
use Rattle.xc_forms.specs.Variables.{is_domain, sizes_of, state_limit}
use Rattle.xc_forms.specs.declared.domain.Domain.{Domain}

-- one size more
pub total_more : (vars : List Domain) (place : ℕ) (d : Domain) → place < length vars → total (sizes_of (drop place vars)) ≡ length (get_or vars place d).values * total (sizes_of (drop (place + 1) vars))
total_more vars place d h = rw (add-one, drop-cons vars place d) refl

-- behind the last variable
pub total_none : (vars : List Domain) (place : ℕ) → length vars ≤ place → total (sizes_of (drop place vars)) ≡ 1
total_none vars place h = ap (λ (ds : List Domain). total (sizes_of ds)) (drop_all place vars h)

-- a product with at least two is not smaller
scaled : (a b : ℕ) → 2 ≤ a → b ≤ a * b
scaled zero b h = absurd (omega arith)
scaled (suc a) b h = grind (arith)

-- a domain has two values at least
domain_some : (d : Domain) → is_domain d ≡ true → 2 ≤ length d.values
domain_some d h = leb-true 2 (length d.values) (and_parts _ _ (and_parts _ _ h).0).0

total_some : (vars : List Domain) → list_all is_domain vars ≡ true → 1 ≤ total (sizes_of vars)
total_some [] h = omega arith
total_some (d ∷ vars) h =
    let both = and_parts (is_domain d) (list_all is_domain vars) h in
    let some = domain_some d both.0 in
    let more = total_some vars both.1 in
    let up = scaled (length d.values) (total (sizes_of vars)) some in
    omega (arith, more, up)

-- the last variables have no more states than all
total_below : (vars : List Domain) (place : ℕ) → list_all is_domain vars ≡ true → total (sizes_of (drop place vars)) ≤ total (sizes_of vars)
total_below vars zero h = omega arith
total_below [] (suc place) h = omega arith
total_below (d ∷ vars) (suc place) h =
    let both = and_parts (is_domain d) (list_all is_domain vars) h in
    let some = domain_some d both.0 in
    let more = total_below vars place both.1 in
    let up = scaled (length d.values) (total (sizes_of vars)) some in
    omega (arith, more, up)

totals_fit : (vars : List Domain) (place : ℕ) → list_all is_domain vars ≡ true → total (sizes_of vars) ≤ state_limit → total (sizes_of (drop place vars)) ≤ state_limit
totals_fit vars place domains few = let below = total_below vars place domains in omega (arith, below, few)

-- the number of values of a variable
pub values_few : (vars : List Domain) (place : ℕ) (d : Domain) → list_all is_domain vars ≡ true → place < length vars → length (get_or vars place d).values ≤ 16
values_few vars place d domains low =
    let is = AllPass-from_list_all is_domain vars domains place d low in
    leb-true (length (get_or vars place d).values) 16 (and_parts _ _ (and_parts _ _ is).0).1

-- one turn of the loop
pub stepped : (vars : List Domain) (place count : ℕ) (d : Domain) → 0 < place → place ≤ length vars → count ≡ total (sizes_of (drop place vars)) → d ≡ get_or vars (place - 1) d → count * length d.values ≡ total (sizes_of (drop (place - 1) vars))
stepped vars place count d some within is at =
    let back : place - 1 + 1 ≡ place = omega arith in
    let more : total (sizes_of (drop (place - 1) vars)) ≡ length (get_or vars (place - 1) d).values * total (sizes_of (drop (place - 1 + 1) vars)) = total_more vars (place - 1) d (omega arith) in
    let same : length (get_or vars (place - 1) d).values ≡ length d.values = ap (λ (x : Domain). length x.values) (sym at) in
    mul_comm count (length d.values) ∙ ap (λ (n : ℕ). length d.values * n) (is ∙ ap (λ (k : ℕ). total (sizes_of (drop k vars))) (sym back))
    ∙ ap (λ (n : ℕ). n * total (sizes_of (drop (place - 1 + 1) vars))) (sym same) ∙ sym more

pub step_fits : (vars : List Domain) (place count : ℕ) (d : Domain) → list_all is_domain vars ≡ true → total (sizes_of vars) ≤ state_limit → 0 < place → place ≤ length vars → count ≡ total (sizes_of (drop place vars)) → d ≡ get_or vars (place - 1) d → count * length d.values < 4294967296
step_fits vars place count d domains few some within is at =
    let same = stepped vars place count d some within is at in
    let limit = totals_fit vars (place - 1) domains few in
    omega (arith, same, limit)
