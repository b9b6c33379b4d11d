-- The texts of views go by the remainder of the number.
use Rattle.std.proofs.Common.{◌≡◌, ℕ, ◌+◌, ◌%◌, ◌==◌, ◌++◌, if◌then◌else◌, List, [], ◌∷◌, codes, refl, ap, arith}
use Rattle.std.specs.List.{flat_map, range_with_len}
use Rattle.std.specs.Fmt.{decimal}
use Rattle.xc_gen.specs.declared.side.Side.{Side}
use Rattle.xc_gen.specs.declared.side.Side.TheVariants.{Left, Right}
use Rattle.xc_gen.specs.Generated.{line, weight, bit, is_lowest, command_line, view_text}

-- after how many numbers the weights come again
abbrev pub period : Side → ℕ
period Left = 5
period Right = 7

weight_same : (side : Side) (number i : ℕ) → weight side number i ≡ weight side (number % period side) i
weight_same Left number i = let e : (number + i) % 5 ≡ (number % 5 + i) % 5 = omega arith in ap (λ (k : ℕ). if k == 0 then codes "M" else codes "T") e
weight_same Right number i =
    let e : (number + i) % 7 ≡ (number % 7 + i) % 7 = omega arith in ap (λ (k : ℕ). if k == 0 then codes "N" else if k == 5 then codes "B" else codes "T") e

command_same : (side : Side) (number i : ℕ) → command_line side number i ≡ command_line side (number % period side) i
command_same side number i = ap (λ (w : List ℕ). line (codes "command set" ++ decimal i ++ codes " with " ++ w ++ codes " when " ++ is_lowest i 1 ++ codes " do " ++ bit i ++ codes ":=1")) (weight_same side number i)

lines_same : (f g : ℕ → List ℕ) → ((i : ℕ) → f i ≡ g i) → (is : List ℕ) → flat_map f is ≡ flat_map g is
lines_same f g h [] = refl
lines_same f g h (i ∷ is) = rw (h i, lines_same f g h is) refl

pub view_same : (side : Side) (number size : ℕ) → view_text side number size ≡ view_text side (number % period side) size
unfolding view_text
view_same side number size = rw (lines_same (command_line side number) (command_line side (number % period side)) (command_same side number) (range_with_len 0 size)) refl
