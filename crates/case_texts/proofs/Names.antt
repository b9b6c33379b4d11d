-- Comparing lists of names.
use Rattle.std.proofs.Common.{◌≡◌, ◌↔◌, List, [], ◌∷◌, ◌&&◌, Bool, map, refl, ap, ◌∙◌, String, string_bytes, string_eq, bytes_eq, IsTrue}
use Rattle.std.specs.Cmp.Lexicographic.{pointwise}
use Rattle.std.proofs.lemmas.Slice.Eq.{slice_eq-Decides, bytes_eq-Decides}

-- names are compared as their bytes
same_tests : {Z : Type 0} (xs ys : List (String Z)) → pointwise string_eq xs ys ≡ pointwise bytes_eq (map string_bytes xs) (map string_bytes ys)
same_tests [] [] = refl
same_tests [] (y ∷ ys) = refl
same_tests (x ∷ xs) [] = refl
same_tests (x ∷ xs) (y ∷ ys) = ap (λ b. string_eq x y && b) (same_tests xs ys)

-- lists of names are equal exactly where the test says so
pub same_names : {Z : Type 0} (xs ys : List (String Z)) (r : Bool) → r ≡ pointwise string_eq xs ys → IsTrue r ↔ (map string_bytes xs ≡ map string_bytes ys)
same_names xs ys r e = slice_eq-Decides bytes_eq-Decides (map string_bytes xs) (map string_bytes ys) r (e ∙ same_tests xs ys)
