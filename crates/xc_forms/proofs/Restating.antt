-- Lists of statements each of which is faultless after those before it, and variables that are declared one after another.
use Rattle.std.proofs.Common.{◌≡◌, ℕ, ◌+◌, ◌*◌, ◌<◌, ◌≤◌, true, false, ◌&&◌, ◌||◌, not, nat_lt, nat_le, List, [], ◌∷◌, ◌++◌, map, length, Option, Some, None, refl, sym, ◌∙◌, ap, subst, append_assoc, arith}
use Rattle.std.specs.List.{list_all, list_any, filter_map}
use Rattle.std.specs.Str.{bytes_eq}
use Rattle.std.proofs.lemmas.Bool.{and_parts, and_from, or_parts, or_from, not-true, leb-true, le-ltb, lt-ltb}
use Rattle.std.proofs.lemmas.List.{append-nil, map-append}
use Rattle.std.proofs.lemmas.List.Folds.{list_any-append}
use Rattle.std.proofs.Math.Nat.{mul-le-mul_left, mul_assoc}
use Rattle.xc_theory.specs.Codes.{total}
use Rattle.xc_base.specs.Canonical.{numbered}
use Rattle.xc_base.specs.Formats.{Format, Excess, IsFaultless, AreStatements}
use Rattle.xc_base.specs.Formats.AreStatements.{none, next}
use Rattle.xc_base.specs.Names.{is_among, has_twice}
use Rattle.xc_forms.specs.Variables.{names_of, sizes_of, is_domain, state_limit}
use Rattle.xc_forms.specs.VariableNames.{is_variable_name, is_value_name}
use Rattle.xc_forms.specs.declared.domain.Domain.{Domain}
use Rattle.xc_forms.specs.VariableLines.{is_named_var, is_var_line, is_var_again, var_excess, line_excess}
use Rattle.xc_forms.specs.FaultlessLines.{AreFaultless}
use Rattle.xc_forms.proofs.FaultlessLines.{not_same, declared_push}
use Rattle.xc_forms.proofs.Sizes.{power_below}

module _ {S V : Type 0} (format : Format S V) (spelling : S → List (List ℕ)) where
  -- rows of their tokens are these statements
  pub are_statements : (before ss : List S) (number : ℕ) → AreFaultless format spelling before ss → AreStatements format before (numbered number (map spelling ss)) ss
  unfolding numbered
  are_statements before [] number h = none before
  are_statements before (s ∷ more) number h =
      next before (record { number = number; tokens = spelling s }) (numbered (number + 1) (map spelling more)) s more h.0 (are_statements (before ++ s ∷ []) more (number + 1) h.1)

  -- one list behind another
  pub faultless_join : (before xs ys : List S) → AreFaultless format spelling before xs → AreFaultless format spelling (before ++ xs) ys → AreFaultless format spelling before (xs ++ ys)
  faultless_join before [] ys h k = subst (λ (b : List S). AreFaultless format spelling b ys) (append-nil before) k
  faultless_join before (x ∷ xs) ys h k =
      (h.0, faultless_join (before ++ x ∷ []) xs ys h.1 (subst (λ (b : List S). AreFaultless format spelling b ys) (sym (append_assoc before (x ∷ []) xs)) k))

-- a name in front of others is none of those before it
pub not_before : (xs : List (List ℕ)) (y : List ℕ) (ys : List (List ℕ)) → has_twice (xs ++ y ∷ ys) ≡ false → is_among xs y ≡ false
not_before [] y ys h = refl
not_before (x ∷ xs) y ys h =
    let parts = or_parts (is_among (xs ++ y ∷ ys) x) (has_twice (xs ++ y ∷ ys)) h in
    let behind = or_parts (list_any (bytes_eq x) xs) (bytes_eq x y || is_among ys x) (sym (list_any-append (bytes_eq x) xs (y ∷ ys)) ∙ parts.0) in
    or_from (bytes_eq y x) (is_among xs y) (not_same y x (or_parts (bytes_eq x y) (is_among ys x) behind.1).0) (not_before xs y ys parts.1)

-- below the limit nothing is too many
pub no_excess : (limit count : ℕ) (e : Excess) → count < limit → line_excess limit count e ≡ None
no_excess limit count e h = rw (lt-ltb count limit h)

-- how many states there are over some variables and others behind them
total_append : (xs ys : List ℕ) → total (xs ++ ys) ≡ total xs * total ys
total_append [] ys = omega arith
total_append (x ∷ xs) ys = ap (λ (n : ℕ). x * n) (total_append xs ys) ∙ sym (mul_assoc x (total xs) (total ys))

-- a variable in front of others passes no limit where all of them pass none
pub var_fits : (before : List Domain) (d : Domain) (vs : List Domain) → is_domain d ≡ true → list_all is_domain vs ≡ true → total (sizes_of (before ++ d ∷ vs)) ≤ state_limit → var_excess (sizes_of before) (length d.values) ≡ None
var_fits before d vs h k few =
    let parts = and_parts (nat_le 2 (length d.values) && nat_le (length d.values) 16) (not (has_twice d.values)) h in
    let sizes : List ℕ = sizes_of before ++ length d.values ∷ [] in
    let together : sizes_of (before ++ d ∷ vs) ≡ sizes ++ sizes_of vs = map-append (λ (x : Domain). length x.values) before (d ∷ vs) ∙ sym (append_assoc (sizes_of before) (length d.values ∷ []) (sizes_of vs)) in
    let whole : total sizes * total (sizes_of vs) ≤ state_limit = subst (λ (n : ℕ). n ≤ state_limit) (ap total together ∙ total_append sizes (sizes_of vs)) few in
    let some : 1 ≤ total (sizes_of vs) = omega (arith, power_below 0 vs (omega arith) k) in
    let small : total sizes ≤ state_limit = omega (arith, whole, mul-le-mul_left (total sizes) some) in
    rw (parts.0, le-ltb state_limit (total sizes) small)

-- Variables of a format, where a statement of one that is due and new is faultless.
module _ {S V : Type 0} (format : Format S V) (spelling : S → List (List ℕ)) (var_in : S → Option Domain) (say : Domain → S) (back : (d : Domain) → var_in (say d) ≡ Some d)
    (Ready : List S → Type 0) (stays : (before : List S) (d : Domain) → Ready before → Ready (before ++ say d ∷ []))
    (fine : (before : List S) (d : Domain) → Ready before → is_var_line d ≡ true → is_var_again (filter_map var_in before) d ≡ false → var_excess (sizes_of (filter_map var_in before)) (length d.values) ≡ None → IsFaultless format before (spelling (say d)) (say d)) where
  pub vars_fine : (before : List S) (vs : List Domain) → Ready before → list_all is_named_var vs ≡ true
      → has_twice (names_of (filter_map var_in before ++ vs)) ≡ false → list_all is_domain vs ≡ true → total (sizes_of (filter_map var_in before ++ vs)) ≤ state_limit → AreFaultless format spelling before (map say vs)
  vars_fine before [] r n t k f = tt
  vars_fine before (v ∷ vs) r n t k f =
      let parts = and_parts (is_named_var v) (list_all is_named_var vs) n in
      let named = and_parts (is_variable_name v.name) (list_all is_value_name v.values) parts.0 in
      let domains = and_parts (is_domain v) (list_all is_domain vs) k in
      let size = and_parts (nat_le 2 (length v.values) && nat_le (length v.values) 16) (not (has_twice v.values)) domains.0 in
      let some : nat_lt 0 (length v.values) ≡ true = lt-ltb 0 (length v.values) (omega (arith, leb-true 2 (length v.values) (and_parts _ _ size.0).0)) in
      let new : is_among (names_of (filter_map var_in before)) v.name ≡ false =
      not_before (names_of (filter_map var_in before)) v.name (names_of vs) (sym (ap has_twice (map-append (λ (w : Domain). w.name) (filter_map var_in before) (v ∷ vs))) ∙ t) in
      let same : filter_map var_in (before ++ say v ∷ []) ++ vs ≡ filter_map var_in before ++ v ∷ vs =
      ap (λ (ws : List Domain). ws ++ vs) (declared_push var_in before (say v) (Some v) (back v)) ∙ append_assoc (filter_map var_in before) (v ∷ []) vs in (
        fine before v r (and_from _ _ named.0 (and_from _ _ some named.1)) (or_from _ _ new (not-true (has_twice v.values) size.1)) (var_fits (filter_map var_in before) v vs domains.0 domains.1 f),
        vars_fine (before ++ say v ∷ []) vs (stays before v r) parts.1
            (ap (λ (ws : List Domain). has_twice (names_of ws)) same ∙ t) domains.1
            (subst (λ (ws : List Domain). total (sizes_of ws) ≤ state_limit) (sym same) f),
      )
