-- Codes and rows of digits stand for each other.
use Rattle.std.proofs.Common.{ℕ, zero, suc, ◌*◌, ◌%◌, ◌<◌, List, [], ◌∷◌, refl, ap, arith}
use Rattle.std.proofs.lemmas.Nat.{div-mul-add, mod-mul-add, mul-add-lt, div-add-mod', div_below, mod_below}
use Rattle.std.proofs.Math.Nat.{mul_comm}
use Rattle.xc_theory.specs.Codes.{total, code_of}
use Rattle.xc_theory.specs.Laws.{DigitsAreInRange, CodesAreInRange, DigitsOfCodes, CodesOfDigits}

-- a number below a product is zero in no factor
pub positive_factor : (code size rest : ℕ) → code < size * rest → 0 < rest
positive_factor code size zero h = absurd (omega arith)
positive_factor code size (suc rest) h = omega arith

pub digits_are_in_range : DigitsAreInRange
digits_are_in_range [] code h = tt
digits_are_in_range (size ∷ sizes) code h =
    let positive = positive_factor code size (total sizes) h in
    (div_below code (total sizes) size positive h, digits_are_in_range sizes (code % total sizes) (mod_below code (total sizes) positive))

pub codes_are_in_range : CodesAreInRange
codes_are_in_range [] [] h = omega arith
codes_are_in_range [] (digit ∷ row) h = absurd h
codes_are_in_range (size ∷ sizes) [] h = absurd h
codes_are_in_range (size ∷ sizes) (digit ∷ row) h =
    rw (mul_comm size (total sizes)) (mul-add-lt digit (total sizes) (code_of sizes row) size h.0 (codes_are_in_range sizes row h.1))

pub digits_of_codes : DigitsOfCodes
digits_of_codes [] [] h = refl
digits_of_codes [] (digit ∷ row) h = absurd h
digits_of_codes (size ∷ sizes) [] h = absurd h
digits_of_codes (size ∷ sizes) (digit ∷ row) h =
    let low = codes_are_in_range sizes row h.1 in
    rw (div-mul-add digit (total sizes) (code_of sizes row) low, mod-mul-add digit (total sizes) (code_of sizes row) low)
    (ap (λ (rest : List ℕ). digit ∷ rest) (digits_of_codes sizes row h.1))

pub codes_of_digits : CodesOfDigits
codes_of_digits [] code h = omega arith
codes_of_digits (size ∷ sizes) code h =
    let positive = positive_factor code size (total sizes) h in
    let rest = codes_of_digits sizes (code % total sizes) (mod_below code (total sizes) positive) in
    rw rest (div-add-mod' code (total sizes))
