-- Joins of weights that pass, as a loop takes them from the last one on.
use Rattle.std.proofs.Common.{◌≡◌, ℕ, zero, suc, ◌+◌, ◌<◌, ◌&&◌, Bool, true, false, cond, List, [], ◌∷◌, length, map, get_or, slice_index, drop, refl, sym, ◌∙◌, ap, arith}
use Rattle.std.specs.List.{list_all}
use Rattle.std.proofs.lemmas.List.Sums.{AllPass-from_list_all}
use Rattle.std.proofs.lemmas.List.{get_or-map, length-map, drop_more}
use Rattle.std.proofs.Math.Seq.{drop-length}
use Rattle.xc_theory.specs.Codes.{AreDigits}
use Rattle.xc_alg.specs.Operations.{Operations}
use Rattle.xc_forms.specs.Variables.{sizes_of}
use Rattle.xc_forms.specs.declared.domain.Domain.{Domain}
use Rattle.xc_moves.proofs.Moving.{digits_length, sizes_length}
use Rattle.xc_merged.specs.Joins.{both, picked, joined_onto, joined_from}
use Rattle.xc_merged.specs.Tabled.{AreWeights}

-- what all pass passes one that is read
pub passes : {X : Type 0} (p : X → Bool) (xs : List X) (i : ℕ) (x : X) → list_all p xs ≡ true → i < length xs → x ≡ get_or xs i x → p x ≡ true
passes p xs i x h low e = rw e (AllPass-from_list_all p xs h i x low)

-- there is one place for each variable
pub digits_count : (vars : List Domain) (row : List ℕ) → AreDigits (sizes_of vars) row → length row ≡ length vars
digits_count vars row h = digits_length (sizes_of vars) row h ∙ sizes_length vars

-- a weight that is read is an element
pub weight_in : (size : ℕ) (weights : List ℕ) (i : ℕ) → AreWeights size weights → i < length weights → slice_index weights i < size
weight_in size weights i are low = are.within i low

-- behind the last weight there is nothing to join
pub none_joined : (o : Operations) (base : ℕ) (weights : List ℕ) (tests : List Bool) (i : ℕ) → i ≡ length weights → base ≡ joined_from o base weights tests i
unfolding joined_from
none_joined o base weights tests i e = rw (e, drop-length weights) refl

-- a weight in front is joined where its test passes
front : (o : Operations) (base w : ℕ) (weights : List ℕ) (t : Bool) (tests : List Bool) → cond t (o.join w (joined_onto o base (picked weights tests))) (joined_onto o base (picked weights tests)) ≡ joined_onto o base (picked (w ∷ weights) (t ∷ tests))
front o base w weights true tests = refl
front o base w weights false tests = refl

-- one more weight, with its test
pub one_more : (o : Operations) (base : ℕ) (weights : List ℕ) (tests : List Bool) (i w sum new : ℕ) (b : Bool) → i < length weights → i < length tests → w ≡ get_or weights i 0 → b ≡ get_or tests i false
    → sum ≡ joined_from o base weights tests (i + 1) → new ≡ cond b (o.join w sum) sum → new ≡ joined_from o base weights tests i
unfolding joined_from
one_more o base weights tests i w sum new b low here e f known is =
    is ∙ ap (λ (n : ℕ). cond b (o.join w n) n) known
    ∙ front o base w (drop (i + 1) weights) b (drop (i + 1) tests)
    ∙ ap (λ (x : ℕ). joined_onto o base (picked (x ∷ drop (i + 1) weights) (b ∷ drop (i + 1) tests))) e
    ∙ ap (λ (x : Bool). joined_onto o base (picked (get_or weights i 0 ∷ drop (i + 1) weights) (x ∷ drop (i + 1) tests))) f
    ∙ ap (λ (ws : List ℕ). joined_onto o base (picked ws (get_or tests i false ∷ drop (i + 1) tests))) (sym (drop_more weights i 0 low))
    ∙ ap (λ (ts : List Bool). joined_onto o base (picked (drop i weights) ts)) (sym (drop_more tests i false here))

-- the same of a test that each of some items has
pub item_more : {X : Type 0} (o : Operations) (base : ℕ) (test : X → Bool) (items : List X) (weights : List ℕ) (i j : ℕ) (x : X) (w sum new : ℕ) (b : Bool) → i + 1 ≡ j → i < length items → length weights ≡ length items → x ≡ get_or items i x → w ≡ get_or weights i 0 → b ≡ test x
    → sum ≡ joined_from o base weights (map test items) j → new ≡ cond b (o.join w sum) sum → new ≡ joined_from o base weights (map test items) i
item_more o base test items weights i j x w sum new b next low count is e f known made =
    one_more o base weights (map test items) i w sum new b (omega arith) (omega (arith, length-map items test)) e (f ∙ ap test is ∙ sym (get_or-map test items i x false low)) (known ∙ ap (joined_from o base weights (map test items)) (sym next)) made

-- what stands in both of two rows
both-length : (some others : List Bool) → length some ≡ length others → length (both some others) ≡ length some
both-length [] others e = refl
both-length (a ∷ some) [] e = absurd (omega arith)
both-length (a ∷ some) (b ∷ others) e = ap suc (both-length some others (omega arith))

both-read : (some others : List Bool) (i : ℕ) → i < length some → length some ≡ length others → get_or (both some others) i false ≡ (get_or some i false && get_or others i false)
both-read [] others i low e = absurd (omega arith)
both-read (a ∷ some) [] i low e = absurd (omega arith)
both-read (a ∷ some) (b ∷ others) zero low e = refl
both-read (a ∷ some) (b ∷ others) (suc i) low e = both-read some others i (omega arith) (omega arith)

-- the same of items of which some count
pub counted_more : {X : Type 0} (o : Operations) (base : ℕ) (test : X → Bool) (items : List X) (counts : List Bool) (weights : List ℕ) (i j : ℕ) (x : X) (w sum new : ℕ) (b : Bool) → i + 1 ≡ j → i < length items → length weights ≡ length items → length counts ≡ length items → x ≡ get_or items i x → w ≡ get_or weights i 0
    → b ≡ (get_or counts i false && test x) → sum ≡ joined_from o base weights (both counts (map test items)) j → new ≡ cond b (o.join w sum) sum → new ≡ joined_from o base weights (both counts (map test items)) i
counted_more o base test items counts weights i j x w sum new b next low count counted is e f known made =
    let same : length counts ≡ length (map test items) = counted ∙ sym (length-map items test) in
    one_more o base weights (both counts (map test items)) i w sum new b (omega arith) (omega (arith, both-length counts (map test items) same)) e
    (f ∙ ap (λ (t : Bool). get_or counts i false && t) (ap test is ∙ sym (get_or-map test items i x false low)) ∙ sym (both-read counts (map test items) i (omega arith) same)) (known ∙ ap (joined_from o base weights (both counts (map test items))) (sym next)) made
