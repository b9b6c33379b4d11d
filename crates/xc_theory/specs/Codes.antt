-- Codes of digits: a list of sizes, and for each size a digit below it, the first digit most significant.
use Rattle.std.specs.Prelude.{ℕ, ◌+◌, ◌*◌, ◌/◌, ◌%◌, ◌<◌, List, [], ◌∷◌}

-- how many codes there are: the product of the sizes
abbrev pub total : List ℕ → ℕ
total [] = 1
total (size ∷ sizes) = size * total sizes

-- the digits of a code
abbrev pub digits : List ℕ → ℕ → List ℕ
digits [] code = []
digits (size ∷ sizes) code = code / total sizes ∷ digits sizes (code % total sizes)

-- the code of some digits
abbrev pub code_of : List ℕ → List ℕ → ℕ
code_of [] row = 0
code_of (size ∷ sizes) [] = 0
code_of (size ∷ sizes) (digit ∷ row) = digit * total sizes + code_of sizes row

-- one digit for each size, and below it
abbrev pub AreDigits : List ℕ → List ℕ → Type 0
AreDigits [] [] = Unit {0}
AreDigits [] (digit ∷ row) = ⊥
AreDigits (size ∷ sizes) [] = ⊥
AreDigits (size ∷ sizes) (digit ∷ row) = (digit < size) × AreDigits sizes row
