-- What parsing gives of a numeral.
use Rattle.std.proofs.Common.{◌≡◌, ◌<◌, ◌^◌, ℕ, true, false, List, [], ◌∷◌, Some, None, Result, Ok, Err, length, nat_le, if◌then◌else◌, refl, ap, rules, arith}
use Rattle.std.specs.Result.{OkIff, result_ok}
use Rattle.std.specs.List.{list_all}
use Rattle.std.specs.Str.Parse.{ParsesUnsigned, digits_value}
use Rattle.std.proofs.lemmas.Str.Parse.{IsNumeralModel, numerals_by_value, parse_digits}
use Rattle.xc_words.specs.Numbers.{is_digit, is_numeral, number_of}

own : IsNumeralModel (λ ds. list_all is_digit ds ≡ true) (digits_value 10)
own = numerals_by_value _ (search rules)

has_digits : (text : List ℕ) → is_numeral text ≡ true → list_all is_digit text ≡ true
has_digits [] e = refl
has_digits (a ∷ []) e = search (rules, e)
has_digits (a ∷ b ∷ rest) e = search (rules, e)

is_longer : (text : List ℕ) → is_numeral text ≡ true → 0 < length text
is_longer [] e = search (rules, e)
is_longer (a ∷ rest) e = omega arith

small : (v : ℕ) → v < 2 ^ 32 → nat_le v 4294967295 ≡ true
small v h = search (rules, arith, h)

large : (v : ℕ) → (v < 2 ^ 32 → ⊥) → nat_le v 4294967295 ≡ false
large v h = search (rules, arith, h)

chosen : {E : Type 0} (r : Result ℕ E) (n v : ℕ) → 0 < n → OkIff r ((0 < n) × (v < 2 ^ 32)) v → result_ok r ≡ (if nat_le v 4294967295 then Some v else None)
chosen (Ok x) n v has h = rw (small v h.0.1) (ap Some h.1)
chosen (Err x) n v has h = rw (large v (λ less. h (has, less))) refl

pub numeral_read : {E : Type 0} (text : List ℕ) (r : Result ℕ E) → is_numeral text ≡ true → ParsesUnsigned 32 10 text r → result_ok r ≡ number_of text
numeral_read text r e h = rw e (chosen r (length text) (digits_value 10 text) (is_longer text e) (parse_digits own 32 text r h (has_digits text e)))
