-- Reaching by steps, and the one table that a relation spans.
use Rattle.std.proofs.Common.{◌≡◌, ℕ, ◌<◌, Bool, true, false, List, [], ◌∷◌, ◌++◌, get_or, refl, sym, ◌∙◌, subst, arith, ext_get_or}
use Rattle.xc_theory.specs.Orders.{is_below, Leads, Reaches, IsSquare, IsSpannedBy}

pub Reaches-refl : (related : ℕ → ℕ → Type 0) (a : ℕ) → Reaches related a a
Reaches-refl related a = ([], refl)

pub Reaches-step : (related : ℕ → ℕ → Type 0) (a b : ℕ) → related a b → Reaches related a b
Reaches-step related a b h = (b ∷ [], (h, refl))

Leads-append : (related : ℕ → ℕ → Type 0) (a : ℕ) (steps : List ℕ) (b : ℕ) (more : List ℕ) (c : ℕ) → Leads related a steps b → Leads related b more c → Leads related a (steps ++ more) c
Leads-append related a [] b more c h k = subst (λ (x : ℕ). Leads related x more c) (sym h) k
Leads-append related a (x ∷ steps) b more c h k = (h.0, Leads-append related x steps b more c h.1 k)

pub Reaches-trans : (related : ℕ → ℕ → Type 0) (a b c : ℕ) → Reaches related a b → Reaches related b c → Reaches related a c
Reaches-trans related a b c h k = (h.0 ++ k.0, Leads-append related a h.0 b k.0 c h.1 k.1)

-- a spanned table is reflexive and transitive
pub spanned_refl : (n : ℕ) (related : ℕ → ℕ → Type 0) (table : List (List Bool)) → IsSpannedBy n related table → (a : ℕ) → a < n → is_below table a a ≡ true
spanned_refl n related table h a within = h.below a a within within (Reaches-refl related a)

pub spanned_trans : (n : ℕ) (related : ℕ → ℕ → Type 0) (table : List (List Bool)) → IsSpannedBy n related table → (a b c : ℕ) → a < n → b < n → c < n → is_below table a b ≡ true → is_below table b c ≡ true → is_below table a c ≡ true
spanned_trans n related table h a b c a_in b_in c_in ab bc =
    h.below a c a_in c_in (Reaches-trans related a b c (h.reached a b a_in b_in ab) (h.reached b c b_in c_in bc))

-- tests that are true in the same cases are the same
same_tests : (x y : Bool) → (x ≡ true → y ≡ true) → (y ≡ true → x ≡ true) → x ≡ y
same_tests true y h k = sym (h refl)
same_tests false true h k = k refl
same_tests false false h k = refl

-- two square tables with the same entries are one
pub same_tables : (n : ℕ) (t u : List (List Bool)) → IsSquare n t → IsSquare n u → ((a b : ℕ) → a < n → b < n → is_below t a b ≡ is_below u a b) → t ≡ u
same_tables n t u ht hu h =
    ext_get_or [] t u (omega (arith, ht.rows, hu.rows))
    (λ a a_in. let within : a < n = omega (arith, ht.rows) in
    ext_get_or false (get_or t a []) (get_or u a []) (ht.columns a within ∙ sym (hu.columns a within))
    (λ b b_in. h a b within (omega (arith, ht.columns a within))))

-- a relation spans one table
pub spanned_once : (n : ℕ) (related : ℕ → ℕ → Type 0) (t u : List (List Bool)) → IsSpannedBy n related t → IsSpannedBy n related u → t ≡ u
spanned_once n related t u ht hu =
    same_tables n t u ht.square hu.square
    (λ a b a_in b_in. same_tests (is_below t a b) (is_below u a b)
    (λ e. hu.below a b a_in b_in (ht.reached a b a_in b_in e))
    (λ e. ht.below a b a_in b_in (hu.reached a b a_in b_in e)))
