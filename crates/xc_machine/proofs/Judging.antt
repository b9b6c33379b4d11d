-- What is judged of some known places is right wherever these are.
use Rattle.std.proofs.Common.{◌≡◌, ℕ, ◌&&◌, ◌||◌, not, ◌==◌, Bool, true, false, List, slice_index, refl, ◌∙◌, ap, subst}
use Rattle.std.proofs.lemmas.Bool.{and_parts, and_from, and_left, and_right}
use Rattle.xc_expr.specs.Tests as tests
use Rattle.xc_expr.specs.Tests.{holds_at}
use Rattle.xc_machine.specs.declared.judgement.Judgement.{Judgement}
use Rattle.xc_machine.specs.declared.judgement.Judgement.TheVariants.{Holds, Fails, Open}
use Rattle.xc_machine.specs.Judging.{is_known, said, opposite, in_both, in_one, judged, IsRight, Agrees}

-- what is known is right
said_right : (known holds b : Bool) → (known ≡ true → b ≡ holds) → IsRight (said known holds) b
said_right true true b h = h refl
said_right true false b h = h refl
said_right false holds b h = tt

opposite_right : (j : Judgement) (b : Bool) → IsRight j b → IsRight (opposite j) (not b)
opposite_right Holds b h = ap not h
opposite_right Fails b h = ap not h
opposite_right Open b h = tt

pub both_right : (j k : Judgement) (b c : Bool) → IsRight j b → IsRight k c → IsRight (in_both j k) (b && c)
both_right Holds Holds b c h i = and_from b c h i
both_right Holds Fails b c h i = and_right b c i
both_right Holds Open b c h i = tt
both_right Fails Holds b c h i = and_left b c h
both_right Fails Fails b c h i = and_left b c h
both_right Fails Open b c h i = and_left b c h
both_right Open Holds b c h i = tt
both_right Open Fails b c h i = and_right b c i
both_right Open Open b c h i = tt

or_by : (b c : Bool) → not (not b && not c) ≡ (b || c)
or_by true c = refl
or_by false true = refl
or_by false false = refl

one_right : (j k : Judgement) (b c : Bool) → IsRight j b → IsRight k c → IsRight (in_one j k) (b || c)
one_right j k b c h i =
    let P : Bool → Type 0 = λ x. IsRight (in_one j k) x in
    subst P (or_by b c) (opposite_right (in_both (opposite j) (opposite k)) (not b && not c) (both_right (opposite j) (opposite k) (not b) (not c) (opposite_right j b h) (opposite_right k c i)))

-- two places that are known
two_known : (places row : List ℕ) (known : List Bool) (x y : ℕ) → Agrees places known row → (is_known known x && is_known known y) ≡ true → (slice_index row x == slice_index row y) ≡ (slice_index places x == slice_index places y)
two_known places row known x y h e =
    let parts = and_parts (is_known known x) (is_known known y) e in
    ap (λ (n : ℕ). n == slice_index row y) (h.same x parts.0) ∙ ap (λ (n : ℕ). slice_index places x == n) (h.same y parts.1)

pub judged_right : (g : tests.Test) (places row : List ℕ) (known : List Bool) → Agrees places known row → IsRight (judged g places known) (holds_at g row)
judged_right tests.True places row known h = refl
judged_right tests.False places row known h = refl
judged_right (tests.Is x v) places row known h = said_right (is_known known x) (slice_index places x == v) (slice_index row x == v) (λ e. ap (λ (n : ℕ). n == v) (h.same x e))
judged_right (tests.IsNot x v) places row known h = said_right (is_known known x) (not (slice_index places x == v)) (not (slice_index row x == v)) (λ e. ap (λ (n : ℕ). not (n == v)) (h.same x e))
judged_right (tests.Same x y) places row known h = said_right (is_known known x && is_known known y) (slice_index places x == slice_index places y) (slice_index row x == slice_index row y) (two_known places row known x y h)
judged_right (tests.Differ x y) places row known h =
    said_right (is_known known x && is_known known y) (not (slice_index places x == slice_index places y)) (not (slice_index row x == slice_index row y)) (λ e. ap not (two_known places row known x y h e))
judged_right (tests.Not g) places row known h = opposite_right (judged g places known) (holds_at g row) (judged_right g places row known h)
judged_right (tests.And g i) places row known h = both_right (judged g places known) (judged i places known) (holds_at g row) (holds_at i row) (judged_right g places row known h) (judged_right i places row known h)
judged_right (tests.Or g i) places row known h = one_right (judged g places known) (judged i places known) (holds_at g row) (holds_at i row) (judged_right g places row known h) (judged_right i places row known h)
