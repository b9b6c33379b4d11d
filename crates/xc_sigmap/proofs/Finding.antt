-- Where names stand, and which there are.
use Rattle.std.proofs.Common.{◌≡◌, ℕ, suc, ◌+◌, ◌-◌, ◌<◌, Bool, true, false, cond, not, ◌&&◌, ◌||◌, nat_lt, List, [], ◌∷◌, map, length, length-drop, drop, take, drop-cons, add-one, get_or, Some, None, refl, sym, ◌∙◌, ap, arith}
use Rattle.std.specs.List.{list_any, list_all, position, position_or_len}
use Rattle.std.specs.Str.{bytes_eq}
use Rattle.std.proofs.lemmas.Bool.{ltb-true, lt-ltb, false_from_ne_true}
use Rattle.std.proofs.lemmas.List.{length-map, take_all, get_or_default}
use Rattle.std.proofs.lemmas.List.Sums.{AllPass-from_list_all}
use Rattle.std.proofs.lemmas.List.Folds.{list_all-map}
use Rattle.xc_base.specs.Names.{is_among, has_twice, place_of}
use Rattle.xc_base.proofs.Naming.{among_in_range}
use Rattle.xc_forms.specs.Variables.{names_of, values_at}
use Rattle.xc_forms.specs.declared.domain.Domain.{Domain}
use Rattle.xc_sigmap_lines.specs.declared.parts.Use.{Use}
use Rattle.xc_sigmap_lines.specs.declared.statement.Pair.{Pair}
use Rattle.xc_sigmap_lines.specs.MapFiles.{use_names, carried_names, values_named}

-- where the first of mapped items passes
position_or_len-map : {X Y : Type 0} (p : Y → Bool) (f : X → Y) (xs : List X) → position_or_len p (map f xs) ≡ position_or_len (λ (x : X). p (f x)) xs
position_or_len-map p f [] = refl
position_or_len-map p f (x ∷ xs) = ap (λ (n : ℕ). cond (not (p (f x))) (1 + n) 0) (position_or_len-map p f xs)

-- the place among items is that among their names
pub use_position : (uses : List Use) (name : List ℕ) → position (bytes_eq name) (use_names uses) ≡ position (λ (u : Use). bytes_eq name u.name) uses
use_position uses name = rw (position_or_len-map (bytes_eq name) (λ (u : Use). u.name) uses, length-map)

-- what a search by a test finds
found : (m n k : ℕ) (b : Bool) → nat_lt m n ≡ b → cond b (Some m) None ≡ Some k → (m ≡ k) × (m < n)
found m n k true e h = let same : m ≡ k = cc in (same, ltb-true m n e)
found m n k false e h = cc

found_facts : (names : List (List ℕ)) (name : List ℕ) (k : ℕ) → position (bytes_eq name) names ≡ Some k → (place_of names name ≡ k) × (place_of names name < length names)
found_facts names name k h = found (place_of names name) (length names) k (nat_lt (place_of names name) (length names)) refl h

-- a name that is not among names is at none of their places
absent_step : (b rest : Bool) (place count : ℕ) → (b || rest) ≡ false → (rest ≡ false → place ≡ count) → cond (not b) (1 + place) 0 ≡ suc count
absent_step true rest place count h k = cc
absent_step false rest place count h k = omega (arith, k h)

absent : (names : List (List ℕ)) (name : List ℕ) → is_among names name ≡ false → place_of names name ≡ length names
absent [] name h = refl
absent (x ∷ names) name h = absent_step (bytes_eq name x) (is_among names name) (place_of names name) (length names) h (absent names name)

-- a name that is found is among them, stands at that place, and this place is there
pub found_is_among : (names : List (List ℕ)) (name : List ℕ) (k : ℕ) → position (bytes_eq name) names ≡ Some k → is_among names name ≡ true
found_is_among names name k h = by_case (is_among names name) refl
  where
    by_case : (b : Bool) → is_among names name ≡ b → b ≡ true
    by_case true e = refl
    by_case false e = absurd (omega (arith, absent names name e, (found_facts names name k h).1))

pub found_at : (names : List (List ℕ)) (name : List ℕ) (k : ℕ) → position (bytes_eq name) names ≡ Some k → place_of names name ≡ k
found_at names name k h = (found_facts names name k h).0

pub found_within : (names : List (List ℕ)) (name : List ℕ) (k : ℕ) → position (bytes_eq name) names ≡ Some k → k < length names
found_within names name k h = let facts = found_facts names name k h in omega (arith, facts.0, facts.1)

-- a name that is not found is not among them
pub none_is_among : (names : List (List ℕ)) (name : List ℕ) → position (bytes_eq name) names ≡ None → is_among names name ≡ false
none_is_among names name h =
    false_from_ne_true (is_among names name)
    (λ (e : is_among names name ≡ true). never (nat_lt (place_of names name) (length names)) (lt-ltb (place_of names name) (length names) (among_in_range names name e)) h)
  where
    never : (b : Bool) → b ≡ true → cond b (Some (place_of names name)) None ≡ None → ⊥
    never true e k = cc
    never false e k = cc

-- whether one of mapped items passes
any_mapped : {X Y : Type 0} (p : Y → Bool) (f : X → Y) (xs : List X) → list_any p (map f xs) ≡ list_any (λ (x : X). p (f x)) xs
any_mapped p f [] = refl
any_mapped p f (x ∷ xs) = ap (λ b. p (f x) || b) (any_mapped p f xs)

-- a value more of pairs
carried_from : (pairs : List Pair) (i : ℕ) (d : Pair) → i < length pairs → has_twice (carried_names (drop i pairs)) ≡ (list_any (λ (p : Pair). bytes_eq (get_or pairs i d).from p.from) (drop (i + 1) pairs) || has_twice (carried_names (drop (i + 1) pairs)))
carried_from pairs i d h =
    rw (add-one, drop-cons pairs i d)
    (ap (λ b. b || has_twice (carried_names (drop (suc i) pairs))) (any_mapped (bytes_eq (get_or pairs i d).from) (λ (p : Pair). p.from) (drop (suc i) pairs)))

-- the same, as a loop finds it
pub carried_step : (pairs : List Pair) (i : ℕ) (x : Pair) (b w : Bool) → i < length pairs → x ≡ get_or pairs i x
    → b ≡ list_any (λ (p : Pair). bytes_eq x.from p.from) (take (length pairs - (i + 1)) (drop (i + 1) pairs))
    → has_twice (carried_names (drop i pairs)) ≡ w → (b || has_twice (carried_names (drop (i + 1) pairs))) ≡ w
carried_step pairs i x b w within e t h =
    let behind : take (length pairs - (i + 1)) (drop (i + 1) pairs) ≡ drop (i + 1) pairs = take_all (length pairs - (i + 1)) (drop (i + 1) pairs) (omega (arith, length-drop (i + 1) pairs)) in
    let own : b ≡ list_any (λ (p : Pair). bytes_eq (get_or pairs i x).from p.from) (drop (i + 1) pairs) =
    t ∙ ap (λ (y : Pair). list_any (λ (p : Pair). bytes_eq y.from p.from) (take (length pairs - (i + 1)) (drop (i + 1) pairs))) e
    ∙ ap (list_any (λ (p : Pair). bytes_eq (get_or pairs i x).from p.from)) behind in
    ap (λ (c : Bool). c || has_twice (carried_names (drop (i + 1) pairs))) own ∙ sym (carried_from pairs i x within) ∙ h

-- a known value of a pair
pub carried_at : (values : List (List ℕ)) (pairs : List Pair) (i : ℕ) (d : Pair) → list_all (is_among values) (carried_names pairs) ≡ true → i < length pairs → is_among values (get_or pairs i d).from ≡ true
carried_at values pairs i d h within =
    AllPass-from_list_all (λ (p : Pair). is_among values p.from) pairs (sym (list_all-map (is_among values) (λ (p : Pair). p.from) pairs) ∙ h) i d within

-- a variable that is found, with its values
pub source_found : (vars : List Domain) (source : List ℕ) (pairs : List Pair) (place : ℕ) (d : Domain) (values : List (List ℕ)) (b : Bool) → position (bytes_eq source) (names_of vars) ≡ Some place
    → values ≡ (get_or vars place d).values → b ≡ list_all (λ (p : Pair). is_among values p.from) pairs
    → b ≡ (is_among (names_of vars) source && list_all (is_among (values_named vars source)) (carried_names pairs))
source_found vars source pairs place d values b h v t =
    let none : Domain = record { name = []; values = [] } in
    let within : place < length vars = omega (arith, found_within (names_of vars) source place h, length-map vars (λ (d : Domain). d.name)) in
    let own : values ≡ values_at vars place = v ∙ ap (λ (x : Domain). x.values) (get_or_default vars place d none within) in
    rw (found_is_among (names_of vars) source place h, found_at (names_of vars) source place h, list_all-map (is_among (values_at vars place)) (λ (p : Pair). p.from) pairs, t, own)

-- and one that is not
pub source_lacks : (vars : List Domain) (source : List ℕ) (pairs : List Pair) → position (bytes_eq source) (names_of vars) ≡ None
    → (is_among (names_of vars) source && list_all (is_among (values_named vars source)) (carried_names pairs)) ≡ false
source_lacks vars source pairs h = rw (none_is_among (names_of vars) source h)
