-- The canonical file of a lattice says that lattice.
use Rattle.std.proofs.Common.{◌≡◌, ℕ, zero, suc, ◌<◌, ◌≤◌, ◌+◌, Bool, true, false, cond, not, eqb, ◌&&◌, nat_le, if◌then◌else◌, List, [], ◌∷◌, ◌++◌, length, map, get_or, append_assoc, append-nil, Some, None, ◌⊎◌, inl, inr, refl, sym, ◌∙◌, subst, ap, arith}
use Rattle.std.specs.Prelude.{filter, find}
use Rattle.std.specs.List.{list_any, list_all, flat_map, range_with_len}
use Rattle.std.specs.Option.{option_map}
use Rattle.std.specs.Str.{bytes_eq}
use Rattle.xc_base.specs.declared.fault.Part.TheVariants as parts
use Rattle.std.proofs.lemmas.Bool.{cases_Bool, cases_eq, and_parts, and_from, or_from, or_right, false_from_ne_true, ne_eqb, lt-ltb, le-leb, not_from_false, not_from_true}
use Rattle.std.proofs.lemmas.List.Folds.{list_any_at}
use Rattle.std.proofs.lemmas.List.Sums.{AllPass-from_list_all}
use Rattle.std.proofs.lemmas.List.FromFn.{length-map-range_with_len, get_or-map-range_with_len}
use Rattle.xc_theory.specs.Orders.{is_below, elements, IsSquare, Leads, IsSpannedBy}
use Rattle.xc_theory.specs.Lattices.{LatticeData, below, negation}
use Rattle.xc_base.specs.Words.{is_name}
use Rattle.xc_base.specs.Names.{is_among, has_twice, name_at, place_of}
use Rattle.xc_base.specs.Formats.{Row, Excess, IsFaultless, AreStatements, IsAccepted}
use Rattle.xc_base.specs.Formats.AreStatements.{none, next}
use Rattle.xc_base.specs.Canonical.{numbered}
use Rattle.xc_base.specs.declared.fault.Counted.TheVariants as counted
use Rattle.xc_base.proofs.CanonicalTexts.{numbered_more, numbered_none}
use Rattle.xc_base.proofs.Naming.{same_bytes, bytes_refl, among_at, among_in_range, name_at-place_of, same_place, in_range}
use Rattle.xc_lattice.specs.declared.statement.Statement.{Statement}
use Rattle.xc_lattice.specs.declared.statement.Statement.TheVariants.{Lattice, Elements, Below, Not}
use Rattle.xc_lattice.specs.LatticeFiles.{LatticeValue, spelling, negates, missing_part, SaysBelow, SaysNegation, lattice_format}
use Rattle.xc_lattice.specs.Drafts.{IsFact, AreFacts, IsReady}
use Rattle.xc_lattice.specs.Printed.{is_strictly_below, below_statements, not_statements, printed, lattice_lines}
use Rattle.xc_lattice.proofs.Drafts.{Has, Contains-from_Has, Has-from_Contains}

-- a name among names is a name
pub among_named : (names : List (List ℕ)) (x : List ℕ) → list_all is_name names ≡ true → is_among names x ≡ true → is_name x ≡ true
among_named names x named h =
    subst (λ (y : List ℕ). is_name y ≡ true) (name_at-place_of names x h) (AllPass-from_list_all is_name names named (place_of names x) [] (among_in_range names x h))

neither_unknown : (a b : Bool) → a ≡ true → b ≡ true → not (a && b) ≡ false
neither_unknown a b h k = rw (h, k) refl

-- a fact on elements is a faultless statement
fact_faultless : (name : List ℕ) (names : List (List ℕ)) (mid : List Statement) (s : Statement) → list_all is_name names ≡ true → IsFact names (Lattice name ∷ Elements names ∷ mid) s
    → IsFaultless lattice_format (Lattice name ∷ Elements names ∷ mid) (spelling s) s
fact_faultless name names mid (Lattice other) named h = absurd h
fact_faultless name names mid (Elements others) named h = absurd h
fact_faultless name names mid (Below a b) named h =
    record {
      due = record { spelled = refl; named = and_from _ _ (among_named names a named h.0) (among_named names b named h.1); placed = refl };
      first = refl;
      known = neither_unknown (is_among names a) (is_among names b) h.0 h.1;
      few = refl;
    }
fact_faultless name names mid (Not a b) named h =
    record {
      due = record { spelled = refl; named = and_from _ _ (among_named names a named h.0) (among_named names b named h.1); placed = refl };
      first = h.2;
      known = neither_unknown (is_among names a) (is_among names b) h.0 h.1;
      few = refl;
    }

facts_read : (name : List ℕ) (names : List (List ℕ)) (mid : List Statement) (number : ℕ) (more : List Statement) → list_all is_name names ≡ true → AreFacts names (Lattice name ∷ Elements names ∷ mid) more
    → AreStatements lattice_format (Lattice name ∷ Elements names ∷ mid) (numbered number (map spelling more)) more
facts_read name names mid number [] named h =
    subst (λ (rows : List Row). AreStatements lattice_format (Lattice name ∷ Elements names ∷ mid) rows []) (sym (numbered_none number)) (none (Lattice name ∷ Elements names ∷ mid))
facts_read name names mid number (s ∷ more) named h =
    subst (λ (rows : List Row). AreStatements lattice_format (Lattice name ∷ Elements names ∷ mid) rows (s ∷ more)) (sym (numbered_more number (spelling s) (map spelling more)))
    (next (Lattice name ∷ Elements names ∷ mid) (record { number = number; tokens = spelling s }) (numbered (number + 1) (map spelling more)) s more
    (fact_faultless name names mid s named h.0) (facts_read name names (mid ++ s ∷ []) (number + 1) more named h.1))

facts_append : (names : List (List ℕ)) (before xs ys : List Statement) → AreFacts names before xs → AreFacts names (before ++ xs) ys → AreFacts names before (xs ++ ys)
facts_append names before [] ys h k = subst (λ (b : List Statement). AreFacts names b ys) (append-nil before) k
facts_append names before (x ∷ xs) ys h k =
    (h.0, facts_append names (before ++ x ∷ []) xs ys h.1 (subst (λ (b : List Statement). AreFacts names b ys) (sym (append_assoc before (x ∷ []) xs)) k))

-- statements that one element is below another
abbrev IsPair : List (List ℕ) → Statement → Type 0
IsPair names (Below a b) = (is_among names a ≡ true) × (is_among names b ≡ true)
IsPair names (Not a b) = ⊥
IsPair names (Lattice name) = ⊥
IsPair names (Elements others) = ⊥

abbrev ArePairs : List (List ℕ) → List Statement → Type 0
ArePairs names [] = Unit {0}
ArePairs names (s ∷ more) = IsPair names s × ArePairs names more

pair_fact : (names : List (List ℕ)) (before : List Statement) (s : Statement) → IsPair names s → IsFact names before s
pair_fact names before (Below a b) h = h
pair_fact names before (Not a b) h = absurd h
pair_fact names before (Lattice name) h = absurd h
pair_fact names before (Elements others) h = absurd h

pair_facts : (names : List (List ℕ)) (before xs : List Statement) → ArePairs names xs → AreFacts names before xs
pair_facts names before [] h = tt
pair_facts names before (x ∷ xs) h = (pair_fact names before x h.0, pair_facts names (before ++ x ∷ []) xs h.1)

pair_negates : (names : List (List ℕ)) (x : List ℕ) (s : Statement) → IsPair names s → negates x s ≡ false
pair_negates names x (Below a b) h = refl
pair_negates names x (Not a b) h = absurd h
pair_negates names x (Lattice name) h = absurd h
pair_negates names x (Elements others) h = absurd h

pairs_negate : (names : List (List ℕ)) (x : List ℕ) (xs : List Statement) → ArePairs names xs → list_any (negates x) xs ≡ false
pairs_negate names x [] h = refl
pairs_negate names x (s ∷ more) h = or_from _ _ (pair_negates names x s h.0) (pairs_negate names x more h.1)

pairs_append : (names : List (List ℕ)) (xs ys : List Statement) → ArePairs names xs → ArePairs names ys → ArePairs names (xs ++ ys)
pairs_append names [] ys h k = k
pairs_append names (x ∷ xs) ys h k = (h.0, pairs_append names xs ys h.1 k)

-- numbers below a number
abbrev AreLow : ℕ → List ℕ → Type 0
AreLow n [] = Unit {0}
AreLow n (x ∷ xs) = (x < n) × AreLow n xs

range_low : (n start count : ℕ) → start + count ≤ n → AreLow n (range_with_len start count)
range_low n start zero h = tt
range_low n start (suc count) h = (omega arith, range_low n (start + 1) count (omega arith))

filter_pairs : (names : List (List ℕ)) (p : ℕ → Bool) (f : ℕ → Statement) (n : ℕ) (xs : List ℕ) → ((x : ℕ) → x < n → IsPair names (f x)) → AreLow n xs → ArePairs names (map f (filter p xs))
filter_pairs names p f n [] g low = tt
filter_pairs names p f n (x ∷ xs) g low =
    elim (cases_Bool (p x)) [ inl e ↦ rw e (g x low.0, filter_pairs names p f n xs g low.1) | inr e ↦ rw e (filter_pairs names p f n xs g low.1) ]

flat_pairs : (names : List (List ℕ)) (F : ℕ → List Statement) (n : ℕ) (xs : List ℕ) → ((x : ℕ) → x < n → ArePairs names (F x)) → AreLow n xs → ArePairs names (flat_map F xs)
flat_pairs names F n [] g low = tt
flat_pairs names F n (x ∷ xs) g low = pairs_append names (F x) (flat_map F xs) (g x low.0) (flat_pairs names F n xs g low.1)

-- names of different elements differ
names_differ : (names : List (List ℕ)) (a b : ℕ) → has_twice names ≡ false → a < length names → b < length names → (a ≡ b → ⊥) → bytes_eq (name_at names a) (name_at names b) ≡ false
names_differ names a b different a_in b_in h =
    false_from_ne_true _ (λ (e : bytes_eq (name_at names a) (name_at names b) ≡ true). h (same_place names a b different a_in b_in (same_bytes (name_at names a) (name_at names b) e)))

any_append : (p : Statement → Bool) (xs ys : List Statement) → list_any p xs ≡ false → list_any p ys ≡ false → list_any p (xs ++ ys) ≡ false
any_append p [] ys h k = k
any_append p (x ∷ xs) ys h k = elim (cases_Bool (p x)) [ inl e ↦ absurd (let no : true ≡ false = rw e at h in cc) | inr e ↦ rw e (any_append p xs ys (rw e at h) k) ]

any_right : (p : Statement → Bool) (xs ys : List Statement) → list_any p ys ≡ true → list_any p (xs ++ ys) ≡ true
any_right p [] ys h = h
any_right p (x ∷ xs) ys h = or_right (p x) _ (any_right p xs ys h)

-- that an element's negation is said
abbrev negation_of : LatticeValue → ℕ → Statement
negation_of v a = Not (name_at v.names a) (name_at v.names (negation v.algebra a))

not_facts : (v : LatticeValue) (before : List Statement) (start count : ℕ) → has_twice v.names ≡ false → ((a : ℕ) → a < length v.names → negation v.algebra a < length v.names) → start + count ≤ length v.names
    → ((a : ℕ) → start ≤ a → a < length v.names → list_any (negates (name_at v.names a)) before ≡ false) → AreFacts v.names before (map (negation_of v) (range_with_len start count))
not_facts v before start zero different low h free = tt
not_facts v before start (suc count) different low h free =
    let here : start < length v.names = omega arith in
    let more : (a : ℕ) → start + 1 ≤ a → a < length v.names → list_any (negates (name_at v.names a)) (before ++ negation_of v start ∷ []) ≡ false =
    λ a above within. any_append (negates (name_at v.names a)) before (negation_of v start ∷ []) (free a (omega arith) within)
    (or_from _ _ (names_differ v.names a start different within here (λ e. omega arith)) refl) in
    ((among_at v.names start here, among_at v.names (negation v.algebra start) (low start here), free start (omega arith) here), not_facts v (before ++ negation_of v start ∷ []) (start + 1) count different low (omega arith) more)

-- no part lacks where each element has a negation
find_no : (p : List ℕ → Bool) (xs : List (List ℕ)) → ((k : ℕ) → k < length xs → p (get_or xs k []) ≡ false) → find p xs ≡ None
find_no p [] h = refl
find_no p (x ∷ xs) h = let first : p x ≡ false = h 0 (omega arith) in rw first (find_no p xs (λ k within. h (suc k) (omega arith)))

not_said : (v : LatticeValue) (k : ℕ) → k < length v.names → list_any (negates (name_at v.names k)) (map (negation_of v) (range_with_len 0 (length v.names))) ≡ true
not_said v k within =
    let p : Statement → Bool = negates (name_at v.names k) in
    let here : get_or (map (negation_of v) (range_with_len 0 (length v.names))) k (negation_of v k) ≡ negation_of v k = get_or-map-range_with_len (negation_of v) 0 (length v.names) k k (negation_of v k) within (omega arith) in
    let low : k < length (map (negation_of v) (range_with_len 0 (length v.names))) = omega (arith, length-map-range_with_len (negation_of v) 0 (length v.names)) in
    list_any_at p (map (negation_of v) (range_with_len 0 (length v.names))) k (negation_of v k) low (ap p here ∙ bytes_refl (name_at v.names k))

-- elements of lists that are made of others
has_left : (xs ys : List Statement) (s : Statement) → Has xs s → Has (xs ++ ys) s
has_left [] ys s h = absurd h
has_left (x ∷ xs) ys s (inl e) = inl e
has_left (x ∷ xs) ys s (inr h) = inr (has_left xs ys s h)

has_right : (xs ys : List Statement) (s : Statement) → Has ys s → Has (xs ++ ys) s
has_right [] ys s h = h
has_right (x ∷ xs) ys s h = inr (has_right xs ys s h)

has_either : (xs ys : List Statement) (s : Statement) → Has (xs ++ ys) s → Has xs s ⊎ Has ys s
has_either [] ys s h = inr h
has_either (x ∷ xs) ys s (inl e) = inl (inl e)
has_either (x ∷ xs) ys s (inr h) = elim (has_either xs ys s h) [ inl k ↦ inl (inr k) | inr k ↦ inr k ]

range_has : (start count a : ℕ) → start ≤ a → a < start + count → Has (range_with_len start count) a
range_has start zero a low high = absurd (omega arith)
range_has start (suc count) a low high = elim (cases_eq start a) [ inl e ↦ inl e | inr e ↦ inr (range_has (start + 1) count a (omega arith) (omega arith)) ]

has_range : (start count a : ℕ) → Has (range_with_len start count) a → (start ≤ a) × (a < start + count)
has_range start zero a h = absurd h
has_range start (suc count) a (inl e) = (omega arith, omega arith)
has_range start (suc count) a (inr h) = let r = has_range (start + 1) count a h in (omega (arith, r.0), omega (arith, r.1))

filter_has : (p : ℕ → Bool) (f : ℕ → Statement) (xs : List ℕ) (b : ℕ) → Has xs b → p b ≡ true → Has (map f (filter p xs)) (f b)
filter_has p f [] b h e = absurd h
filter_has p f (x ∷ xs) b (inl same) e = let first : p x ≡ true = ap p same ∙ e in rw first (inl (ap f same))
filter_has p f (x ∷ xs) b (inr h) e = elim (cases_Bool (p x)) [ inl k ↦ rw k (inr (filter_has p f xs b h e)) | inr k ↦ rw k (filter_has p f xs b h e) ]

-- what stands among the statements of the elements that pass
pub record IsFrom (p : ℕ → Bool) (f : ℕ → Statement) (xs : List ℕ) (s : Statement) : Type 0 where
  pub element : ℕ
  pub has : Has xs element
  pub passes : p element ≡ true
  pub is : f element ≡ s

from_more : (p : ℕ → Bool) (f : ℕ → Statement) (x : ℕ) (xs : List ℕ) (s : Statement) → IsFrom p f xs s → IsFrom p f (x ∷ xs) s
from_more p f x xs s h = record { element = h.element; has = inr h.has; passes = h.passes; is = h.is }

has_first : (p : ℕ → Bool) (f : ℕ → Statement) (x : ℕ) (xs : List ℕ) (s : Statement) (b : Bool) → p x ≡ b → (Has (map f (filter p xs)) s → IsFrom p f xs s) → Has (map f (cond b (x ∷ filter p xs) (filter p xs))) s → IsFrom p f (x ∷ xs) s
has_first p f x xs s true e more (inl same) = record { element = x; has = inl refl; passes = e; is = same }
has_first p f x xs s true e more (inr h) = from_more p f x xs s (more h)
has_first p f x xs s false e more h = from_more p f x xs s (more h)

has_filter : (p : ℕ → Bool) (f : ℕ → Statement) (xs : List ℕ) (s : Statement) → Has (map f (filter p xs)) s → IsFrom p f xs s
has_filter p f [] s h = absurd h
has_filter p f (x ∷ xs) s h = has_first p f x xs s (p x) refl (has_filter p f xs s) h

flat_has : (F : ℕ → List Statement) (xs : List ℕ) (a : ℕ) (s : Statement) → Has xs a → Has (F a) s → Has (flat_map F xs) s
flat_has F [] a s h k = absurd h
flat_has F (x ∷ xs) a s (inl e) k = has_left (F x) (flat_map F xs) s (subst (λ (b : ℕ). Has (F b) s) (sym e) k)
flat_has F (x ∷ xs) a s (inr h) k = has_right (F x) (flat_map F xs) s (flat_has F xs a s h k)

has_flat : (F : ℕ → List Statement) (xs : List ℕ) (s : Statement) → Has (flat_map F xs) s → (a : ℕ) × (Has xs a × Has (F a) s)
has_flat F [] s h = absurd h
has_flat F (x ∷ xs) s h =
    elim (has_either (F x) (flat_map F xs) s h) [ inl k ↦ (x, (inl refl, k)) | inr k ↦ let r = has_flat F xs s k in (r.0, (inr r.1.0, r.1.1)) ]

map_has : (f : ℕ → Statement) (xs : List ℕ) (a : ℕ) → Has xs a → Has (map f xs) (f a)
map_has f [] a h = absurd h
map_has f (x ∷ xs) a (inl e) = inl (ap f e)
map_has f (x ∷ xs) a (inr h) = inr (map_has f xs a h)

-- a negation is no statement on what is below what
no_pair_in : (v : LatticeValue) (xs : List ℕ) (low high : List ℕ) → Has (map (negation_of v) xs) (Below low high) → ⊥
no_pair_in v [] low high h = h
no_pair_in v (x ∷ xs) low high (inl e) = cc
no_pair_in v (x ∷ xs) low high (inr h) = no_pair_in v xs low high h

strictly_below : (l : LatticeData) (a b : ℕ) → (a ≡ b → ⊥) → below l a b ≡ true → is_strictly_below l a b ≡ true
strictly_below l a b h k = and_from _ _ (not_from_false (eqb a b) (ne_eqb a b h)) k

module _ (v : LatticeValue) (r : IsReady v) where
  numbers : elements v.algebra.order ≡ range_with_len 0 (length v.names)
  numbers = ap (range_with_len 0) (sym r.named)

  low_elements : AreLow (length v.names) (elements v.algebra.order)
  low_elements = subst (λ (xs : List ℕ). AreLow (length v.names) xs) (sym numbers) (range_low (length v.names) 0 (length v.names) (omega arith))

  has_element : (a : ℕ) → a < length v.names → Has (elements v.algebra.order) a
  has_element a within = subst (λ (xs : List ℕ). Has xs a) (sym numbers) (range_has 0 (length v.names) a (omega arith) (omega arith))

  element_low : (a : ℕ) → Has (elements v.algebra.order) a → a < length v.names
  element_low a h = let bound = (has_range 0 (length v.names) a (subst (λ (xs : List ℕ). Has xs a) numbers h)).1 in omega (arith, bound)

  negation_low : (a : ℕ) → a < length v.names → negation v.algebra a < length v.names
  negation_low a within = let low = r.shape.in_range a (omega (arith, r.named)) in omega (arith, low, r.named)

  pairs : ArePairs v.names (flat_map (λ a. below_statements v a (elements v.algebra.order)) (elements v.algebra.order))
  pairs =
      flat_pairs v.names (λ a. below_statements v a (elements v.algebra.order)) (length v.names) (elements v.algebra.order)
      (λ a within. filter_pairs v.names (is_strictly_below v.algebra a) (λ b. Below (name_at v.names a) (name_at v.names b)) (length v.names) (elements v.algebra.order) (λ b b_in. (among_at v.names a within, among_at v.names b b_in)) low_elements)
      low_elements

  nots_after : (before : List Statement) → ((a : ℕ) → 0 ≤ a → a < length v.names → list_any (negates (name_at v.names a)) before ≡ false) → AreFacts v.names before (not_statements v (elements v.algebra.order))
  nots_after before free =
      subst (λ (xs : List ℕ). AreFacts v.names before (map (negation_of v) xs)) (sym numbers) (not_facts v before 0 (length v.names) r.different negation_low (omega arith) free)

  facts : AreFacts v.names (Lattice v.name ∷ Elements v.names ∷ []) (flat_map (λ a. below_statements v a (elements v.algebra.order)) (elements v.algebra.order) ++ not_statements v (elements v.algebra.order))
  facts =
      let below = flat_map (λ (a : ℕ). below_statements v a (elements v.algebra.order)) (elements v.algebra.order) in
      facts_append v.names (Lattice v.name ∷ Elements v.names ∷ []) below (not_statements v (elements v.algebra.order))
      (pair_facts v.names (Lattice v.name ∷ Elements v.names ∷ []) below pairs)
      (nots_after (Lattice v.name ∷ Elements v.names ∷ below) (λ a low within. pairs_negate v.names (name_at v.names a) below pairs))

  name_line : IsFaultless lattice_format [] (spelling (Lattice v.name)) (Lattice v.name)
  name_line = record { due = record { spelled = refl; named = r.titled; placed = refl }; first = refl; known = refl; few = refl }

  no_excess : (x : Excess) → (if nat_le 2 (length v.names) && nat_le (length v.names) 64 then None else Some x) ≡ None
  no_excess x = let few : (nat_le 2 (length v.names) && nat_le (length v.names) 64) ≡ true = and_from _ _ (le-leb 2 (length v.names) (omega (arith, r.some, r.named))) (le-leb (length v.names) 64 (omega (arith, r.few, r.named))) in rw few refl

  elements_line : IsFaultless lattice_format (Lattice v.name ∷ []) (spelling (Elements v.names)) (Elements v.names)
  elements_line =
      record {
        due = record { spelled = refl; named = and_from _ _ (lt-ltb 0 (length v.names) (omega (arith, r.some, r.named))) r.names_are; placed = refl };
        first = r.different;
        known = refl;
        few = no_excess (record { what = counted.Elements; found = length v.names });
      }

  lines_read : AreStatements lattice_format [] (numbered 1 (lattice_lines v)) (printed v)
  lines_read =
      let more = flat_map (λ (a : ℕ). below_statements v a (elements v.algebra.order)) (elements v.algebra.order) ++ not_statements v (elements v.algebra.order) in
      let first = numbered_more 1 (spelling (Lattice v.name)) (spelling (Elements v.names) ∷ map spelling more) in
      let second = numbered_more 2 (spelling (Elements v.names)) (map spelling more) in
      let all : numbered 1 (lattice_lines v) ≡ record { number = 1; tokens = spelling (Lattice v.name) } ∷ record { number = 2; tokens = spelling (Elements v.names) } ∷ numbered 3 (map spelling more) =
      first ∙ ap (λ (rows : List Row). record { number = 1; tokens = spelling (Lattice v.name) } ∷ rows) second in
      subst (λ (rows : List Row). AreStatements lattice_format [] rows (printed v)) (sym all)
      (next [] (record { number = 1; tokens = spelling (Lattice v.name) }) _ (Lattice v.name) _ name_line
      (next (Lattice v.name ∷ []) (record { number = 2; tokens = spelling (Elements v.names) }) _ (Elements v.names) _ elements_line
      (facts_read v.name v.names [] 3 more r.names_are facts)))

  each_negated : (k : ℕ) → k < length v.names → list_any (negates (name_at v.names k)) (printed v) ≡ true
  each_negated k within =
      any_right (negates (name_at v.names k)) (Lattice v.name ∷ Elements v.names ∷ flat_map (λ a. below_statements v a (elements v.algebra.order)) (elements v.algebra.order)) (not_statements v (elements v.algebra.order))
      (subst (λ (xs : List ℕ). list_any (negates (name_at v.names k)) (map (negation_of v) xs) ≡ true) (sym numbers) (not_said v k within))

  no_part_lacks : missing_part (printed v) ≡ None
  no_part_lacks =
      ap (option_map parts.Not) (find_no (λ name. not (list_any (negates name) (printed v))) v.names (λ k within. not_from_true _ (each_negated k within)))

  said_below : (a b : ℕ) → a < length v.names → b < length v.names → (a ≡ b → ⊥) → is_below v.algebra.order a b ≡ true → SaysBelow (printed v) v.names a b
  said_below a b a_in b_in h k =
      let s = Below (name_at v.names a) (name_at v.names b) in
      Contains-from_Has (printed v) s
      (inr (inr (has_left (flat_map (λ a. below_statements v a (elements v.algebra.order)) (elements v.algebra.order)) (not_statements v (elements v.algebra.order)) s
      (flat_has (λ a. below_statements v a (elements v.algebra.order)) (elements v.algebra.order) a s (has_element a a_in)
      (filter_has (is_strictly_below v.algebra a) (λ b. Below (name_at v.names a) (name_at v.names b)) (elements v.algebra.order) b (has_element b b_in) (strictly_below v.algebra a b h k))))))

  pair_said : (x y a b : ℕ) → a < length v.names → b < length v.names → is_below v.algebra.order a b ≡ true → name_at v.names a ≡ name_at v.names x → name_at v.names b ≡ name_at v.names y
      → (x < length v.names) × (y < length v.names) × (is_below v.algebra.order x y ≡ true)
  pair_said x y a b a_in b_in h e f =
      let x_in = in_range v.names x r.names_are (subst (λ (t : List ℕ). is_among v.names t ≡ true) e (among_at v.names a a_in)) in
      let y_in = in_range v.names y r.names_are (subst (λ (t : List ℕ). is_among v.names t ≡ true) f (among_at v.names b b_in)) in
      let same : a ≡ x = same_place v.names a x r.different a_in x_in e in
      let alike : b ≡ y = same_place v.names b y r.different b_in y_in f in
      (x_in, y_in, subst (λ (c : ℕ). is_below v.algebra.order c y ≡ true) same (subst (λ (c : ℕ). is_below v.algebra.order a c ≡ true) alike h))

  below_said : (x y : ℕ) → Has (printed v) (Below (name_at v.names x) (name_at v.names y)) → (x < length v.names) × (y < length v.names) × (is_below v.algebra.order x y ≡ true)
  below_said x y (inl e) = cc
  below_said x y (inr (inl e)) = cc
  below_said x y (inr (inr h)) =
      let s = Below (name_at v.names x) (name_at v.names y) in
      elim (has_either (flat_map (λ a. below_statements v a (elements v.algebra.order)) (elements v.algebra.order)) (not_statements v (elements v.algebra.order)) s h) [
        | inl k ↦
            let at = has_flat (λ a. below_statements v a (elements v.algebra.order)) (elements v.algebra.order) s k in
            let from = has_filter (is_strictly_below v.algebra at.0) (λ b. Below (name_at v.names at.0) (name_at v.names b)) (elements v.algebra.order) s at.1.1 in
            let is : Below (name_at v.names at.0) (name_at v.names from.element) ≡ Below (name_at v.names x) (name_at v.names y) = from.is in
            pair_said x y at.0 from.element (element_low at.0 at.1.0) (element_low from.element from.has) (and_parts (not (eqb at.0 from.element)) (is_below v.algebra.order at.0 from.element) from.passes).1 (cc) (cc)
        | inr k ↦ absurd (no_pair_in v (elements v.algebra.order) (name_at v.names x) (name_at v.names y) k)
      ]

  steps_below : (x : ℕ) (steps : List ℕ) (z : ℕ) → x < length v.names → z < length v.names → Leads (SaysBelow (printed v) v.names) x steps z → is_below v.algebra.order x z ≡ true
  steps_below x [] z x_in z_in h = subst (λ (y : ℕ). is_below v.algebra.order x y ≡ true) h (r.reflexive x (omega (arith, r.named)))
  steps_below x (y ∷ steps) z x_in z_in h =
      let first = below_said x y (Has-from_Contains (printed v) (Below (name_at v.names x) (name_at v.names y)) h.0) in
      r.transitive x y z (omega (arith, r.named)) (omega (arith, r.named, first.1)) (omega (arith, r.named)) first.2 (steps_below y steps z first.1 z_in h.1)

  order_said : IsSpannedBy (length v.names) (SaysBelow (printed v) v.names) v.algebra.order
  order_said =
      record {
        square = subst (λ (k : ℕ). IsSquare k v.algebra.order) (sym r.named) r.shape.square;
        reached = λ a b a_in b_in h. elim (cases_eq a b) [ inl e ↦ ([], e) | inr e ↦ (b ∷ [], (said_below a b a_in b_in e h, refl)) ];
        below = λ a b a_in b_in h. steps_below a h.0 b a_in b_in h.1;
      }

  negation_said : (a : ℕ) → a < length v.names → SaysNegation (printed v) v.names a (negation v.algebra a)
  negation_said a within =
      Contains-from_Has (printed v) (negation_of v a)
      (inr (inr (has_right (flat_map (λ a. below_statements v a (elements v.algebra.order)) (elements v.algebra.order)) (not_statements v (elements v.algebra.order)) (negation_of v a) (map_has (negation_of v) (elements v.algebra.order) a (has_element a within)))))

  -- the lines of its canonical file say the lattice
  pub lines_accepted : IsAccepted lattice_format (numbered 1 (lattice_lines v)) v
  lines_accepted =
      record {
        statements = printed v;
        read = lines_read;
        whole = no_part_lacks;
        says = record {
          name = Contains-from_Has (printed v) (Lattice v.name) (inl refl);
          names = Contains-from_Has (printed v) (Elements v.names) (inr (inl refl));
          order = order_said;
          negations = r.shape.negations ∙ sym r.named;
          negated = λ a within. (negation_low a within, negation_said a within);
        };
      }

  pub all_facts : AreFacts v.names (Lattice v.name ∷ Elements v.names ∷ []) (flat_map (λ a. below_statements v a (elements v.algebra.order)) (elements v.algebra.order) ++ not_statements v (elements v.algebra.order))
  all_facts = facts
