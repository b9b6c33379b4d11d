-- How long lines are.
use Rattle.std.proofs.Common.{◌≡◌, ℕ, ◌+◌, ◌*◌, ◌≤◌, Bool, true, false, ◌&&◌, if◌then◌else◌, List, [], ◌∷◌, ◌++◌, length, length-append, arith}
use Rattle.std.specs.List.{list_all}
use Rattle.std.proofs.lemmas.Bool.{and_parts, leb-true, le-leb}
use Rattle.xc_base.specs.Words.{is_word, is_name}
use Rattle.xc_base.specs.Canonical.{spaced, is_short}
use Rattle.xc_forms.specs.VariableNames.{is_variable_name, is_value_name}
use Rattle.xc_forms.specs.declared.domain.Domain.{Domain}
use Rattle.xc_forms.specs.VariableLines.{var_tokens, is_named_var}

-- the bytes of tokens, and one more for each
unfoldable pub size : List (List ℕ) → ℕ
size [] = 0
size (t ∷ ts) = length t + 1 + size ts

with_gap : (t gap rest : List ℕ) (n : ℕ) → length gap ≤ 1 → length rest ≤ n → length ((t ++ gap) ++ rest) ≤ length t + 1 + n
with_gap t gap rest n g h = omega (arith, length-append (t ++ gap) rest, length-append t gap)

gap_size : (b : Bool) (t rest : List ℕ) (n : ℕ) → length rest ≤ n → length ((t ++ (if b then 32 ∷ [] else [])) ++ rest) ≤ length t + 1 + n
gap_size true t rest n h = with_gap t (32 ∷ []) rest n (omega arith) h
gap_size false t rest n h = with_gap t [] rest n (omega arith) h

pub spaced_size : (ts : List (List ℕ)) → length (spaced ts) ≤ size ts
unfolding spaced size
spaced_size [] = omega arith
spaced_size (t ∷ []) = omega arith
spaced_size (t ∷ u ∷ ts) = gap_size (is_word t && is_word u) t (spaced (u ∷ ts)) (size (u ∷ ts)) (spaced_size (u ∷ ts))

-- names are short
pub name_size : (text : List ℕ) → is_name text ≡ true → length text ≤ 32
name_size text h = leb-true (length text) 32 (and_parts _ _ (and_parts _ _ h).0).1

pub values_size : (ws : List (List ℕ)) → list_all is_value_name ws ≡ true → size ws ≤ 33 * length ws
unfolding size
values_size [] h = omega arith
values_size (w ∷ ws) h =
    let parts = and_parts (is_value_name w) (list_all is_value_name ws) h in
    let here = name_size w (and_parts (is_name w) _ parts.0).0 in
    let rest = values_size ws parts.1 in
    omega arith

pub short_by : (ts : List (List ℕ)) → size ts ≤ 4096 → is_short ts ≡ true
short_by ts h = le-leb (length (spaced ts)) 4096 (omega (arith, spaced_size ts, h))

-- so a variable's line is short
pub var_short : (d : Domain) → is_named_var d ≡ true → length d.values ≤ 16 → is_short (var_tokens d) ≡ true
unfolding size
var_short d h few =
    let parts = and_parts (is_variable_name d.name) (list_all is_value_name d.values) h in
    let name = name_size d.name (and_parts (is_name d.name) _ parts.0).0 in
    let values = values_size d.values parts.1 in
    short_by (var_tokens d) (omega arith)
