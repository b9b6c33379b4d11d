-- What viewpoints without faults have.
use Rattle.std.proofs.Common.{◌≡◌, ℕ, zero, suc, ◌+◌, ◌<◌, ◌≤◌, ◌&&◌, not, ◌==◌, cond, Bool, true, false, List, [], ◌∷◌, ◌++◌, length, map, Option, Some, None, is_some, refl, sym, subst, inl, inr, arith}
use Rattle.std.specs.List.{list_all, filter, find, flat_map, range_with_len}
use Rattle.std.specs.Option.{is_none}
use Rattle.std.proofs.lemmas.Bool.{and_from, and_parts, cases_eq}
use Rattle.std.proofs.lemmas.Option.{none-some, same_Some}
use Rattle.xc_base.specs.Names.{is_among, place_of, name_at}
use Rattle.xc_base.proofs.Naming.{among_in_range}
use Rattle.xc_forms.specs.declared.domain.Domain.{Domain}
use Rattle.xc_sigmap_lines.specs.MapFiles.{MapValue}
use Rattle.xc_sigmap_lines.specs.declared.parts.Tell.{Tell}
use Rattle.xc_sigmap_lines.specs.declared.parts.Told.{Told}
use Rattle.xc_sigmap_lines.specs.declared.parts.Told.TheVariants.{Named, Constant}
use Rattle.xc_merge.specs.Merges.{Merge, Viewpoint, viewpoint_at, name_of}
use Rattle.xc_merge.specs.MergedFrames.{line_of, stutter_words}
use Rattle.xc_merge.specs.Pieces.{constant_told, fixed_by, fixed}
use Rattle.xc_merge.specs.Faults.{missing, value_words, value_faults, send_faults, told_faults, tell_faults, stutter_faults, is_fed, variable_faults, prop_faults, viewpoint_faults, all_faults}
use Rattle.xc_merge.specs.declared.fault.MergeFault.TheVariants.{UnknownValue, NotTotal}

-- what has no item
both_nil : {X : Type 0} (xs ys : List X) → xs ++ ys ≡ [] → (xs ≡ []) × (ys ≡ [])
both_nil [] ys e = (refl, e)
both_nil (x ∷ xs) ys e = (cc)

map_nil : {X Y : Type 0} (f : X → Y) (xs : List X) → map f xs ≡ [] → xs ≡ []
map_nil f [] e = refl
map_nil f (x ∷ xs) e = (cc)

left_out : {X : Type 0} (x : X) (xs : List X) (b : Bool) → cond b (x ∷ xs) xs ≡ [] → (b ≡ false) × (xs ≡ [])
left_out x xs true e = (cc)
left_out x xs false e = (refl, e)

not_true : (b : Bool) → not b ≡ false → b ≡ true
not_true true e = refl
not_true false e = (cc)

none_left : {X : Type 0} (p : X → Bool) (xs : List X) → filter (λ x. not (p x)) xs ≡ [] → list_all p xs ≡ true
none_left p [] e = refl
none_left p (x ∷ xs) e =
    let out = left_out x (filter (λ y. not (p y)) xs) (not (p x)) e in
    and_from (p x) (list_all p xs) (not_true (p x) out.0) (none_left p xs out.1)

none_in_range : (p : ℕ → Bool) (x n k : ℕ) → filter p (range_with_len x n) ≡ [] → x ≤ k → k < x + n → p k ≡ false
none_in_range p x zero k e low high = absurd (omega arith)
none_in_range p x (suc n) k e low high =
    let out = left_out x (filter p (range_with_len (x + 1) n)) (p x) e in
    elim (cases_eq x k) [
      | inl same ↦ subst (λ (y : ℕ). p y ≡ false) same out.0
      | inr apart ↦ none_in_range p (x + 1) n k out.1 (omega arith) (omega arith)
    ]

none_gathered : {X : Type 0} (f : ℕ → List X) (x n k : ℕ) → flat_map f (range_with_len x n) ≡ [] → x ≤ k → k < x + n → f k ≡ []
none_gathered f x zero k e low high = absurd (omega arith)
none_gathered f x (suc n) k e low high =
    let two = both_nil (f x) (flat_map f (range_with_len (x + 1) n)) e in
    elim (cases_eq x k) [
      | inl same ↦ subst (λ (y : ℕ). f y ≡ []) same two.0
      | inr apart ↦ none_gathered f (x + 1) n k two.1 (omega arith) (omega arith)
    ]

-- words of which none is missing
none_missing : (names words : List (List ℕ)) → missing names words ≡ [] → list_all (is_among names) words ≡ true
none_missing names words e = none_left (is_among names) words e

-- an item that is found, and of which nothing is gathered
found_step : {X Y : Type 0} (f : X → List Y) (x a : X) (q r : Bool) (rest : Option X) (others : List Y) (kept : List X) → cond (q && r) (Some x) rest ≡ Some a → flat_map f (cond q (x ∷ kept) kept) ≡ [] → (rest ≡ Some a → flat_map f kept ≡ [] → f a ≡ []) → f a ≡ []
found_step f x a true true rest others kept e none more = let same : x ≡ a = same_Some x a e in subst (λ y. f y ≡ []) same (both_nil (f x) (flat_map f kept) none).0
found_step f x a true false rest others kept e none more = more e (both_nil (f x) (flat_map f kept) none).1
found_step f x a false r rest others kept e none more = more e none

found_none : {X Y : Type 0} (f : X → List Y) (q r : X → Bool) (xs : List X) (a : X) → find (λ x. q x && r x) xs ≡ Some a → flat_map f (filter q xs) ≡ [] → f a ≡ []
found_none f q r [] a e none = absurd (none-some a e)
found_none f q r (x ∷ xs) a e none = found_step f x a (q x) (r x) (find (λ y. q y && r y) xs) [] (filter q xs) e none (found_none f q r xs a)

-- what is found passes what all pass
first_passes : {X : Type 0} (p : X → Bool) (b : Bool) (x a : X) (rest : Option X) → p x ≡ true → cond b (Some x) rest ≡ Some a → (rest ≡ Some a → p a ≡ true) → p a ≡ true
first_passes p true x a rest h e k = let same : x ≡ a = same_Some x a e in subst (λ y. p y ≡ true) same h
first_passes p false x a rest h e k = k e

pub found_passes : {X : Type 0} (p q : X → Bool) (xs : List X) (a : X) → list_all p xs ≡ true → find q xs ≡ Some a → p a ≡ true
found_passes p q [] a h e = absurd (none-some a e)
found_passes p q (x ∷ xs) a h e =
    let two = and_parts (p x) (list_all p xs) h in
    first_passes p (q x) x a (find q xs) two.0 e (found_passes p q xs a two.1)

-- what the absence of faults says of a viewpoint
pub record IsFaultless (plan : MapValue) (v : ℕ) (p : Viewpoint) : Type 0 where
  pub values : list_all (is_among p.lattice.names) (value_words p.view) ≡ true
  pub tells : tell_faults plan v p ≡ []
  pub stutters : list_all (is_among p.lattice.names) (stutter_words plan v) ≡ true
  pub vars : list_all (is_fed plan v) p.view.vars ≡ true
  pub props : (k : ℕ) → k < length plan.props → is_some (line_of plan v k) ≡ true

there_by : {X : Type 0} (o : Option X) → is_none o ≡ false → is_some o ≡ true
there_by None e = (cc)
there_by (Some x) e = refl

pub faultless : (plan : MapValue) (v : ℕ) (p : Viewpoint) → viewpoint_faults plan v p ≡ [] → IsFaultless plan v p
faultless plan v p e =
    let six = both_nil (value_faults plan v p ++ send_faults plan v p ++ tell_faults plan v p ++ stutter_faults plan v p ++ variable_faults plan v p) (prop_faults plan v) e in
    let five = both_nil (value_faults plan v p ++ send_faults plan v p ++ tell_faults plan v p ++ stutter_faults plan v p) (variable_faults plan v p) six.0 in
    let four = both_nil (value_faults plan v p ++ send_faults plan v p ++ tell_faults plan v p) (stutter_faults plan v p) five.0 in
    let three = both_nil (value_faults plan v p ++ send_faults plan v p) (tell_faults plan v p) four.0 in
    let two = both_nil (value_faults plan v p) (send_faults plan v p) three.0 in
    record {
      values = none_missing p.lattice.names (value_words p.view) (map_nil (UnknownValue (name_of plan v)) (missing p.lattice.names (value_words p.view)) two.0);
      tells = three.1;
      stutters = none_missing p.lattice.names (stutter_words plan v) (map_nil (UnknownValue (name_of plan v)) (missing p.lattice.names (stutter_words plan v)) four.1);
      vars = none_left (is_fed plan v) p.view.vars (map_nil (λ (d : Domain). NotTotal (name_of plan v) d.name) (filter (λ (d : Domain). not (is_fed plan v d)) p.view.vars) five.1);
      props = λ k low.
          there_by (line_of plan v k) (none_in_range (λ j. is_none (line_of plan v j)) 0 (length plan.props) k
          (map_nil (λ j. NotTotal (name_of plan v) (name_at plan.props j)) (filter (λ j. is_none (line_of plan v j)) (range_with_len 0 (length plan.props))) six.1) (omega arith) (omega arith));
    }

-- of all faults those of one viewpoint
pub none_of_one : (m : Merge) (v : ℕ) → all_faults m ≡ [] → v < length m.viewpoints → viewpoint_faults m.plan v (viewpoint_at m v) ≡ []
unfolding all_faults
none_of_one m v e low = none_gathered (λ w. viewpoint_faults m.plan w (viewpoint_at m w)) 0 (length m.viewpoints) v e (omega arith) (omega arith)

-- a constant that is told is an element
word_known : (viewpoint : List ℕ) (p : Viewpoint) (told : Told) (c : ℕ) → told_faults viewpoint p told ≡ [] → constant_told p told ≡ Some c → c < length p.lattice.names
word_known viewpoint p (Named name) c none e = absurd (none-some c e)
word_known viewpoint p (Constant word) c none e =
    let known = none_missing p.lattice.names (word ∷ []) (map_nil (UnknownValue viewpoint) (missing p.lattice.names (word ∷ [])) none) in
    let same : place_of p.lattice.names word ≡ c = same_Some (place_of p.lattice.names word) c e in
    omega (arith, among_in_range p.lattice.names word (and_parts (is_among p.lattice.names word) true known).0)

fixed_known : (plan : MapValue) (v k : ℕ) (p : Viewpoint) (o : Option Tell) (c : ℕ) → o ≡ line_of plan v k → tell_faults plan v p ≡ [] → fixed_by p o ≡ Some c → c < length p.lattice.names
fixed_known plan v k p None c is none e = absurd (none-some c e)
fixed_known plan v k p (Some line) c is none e =
    word_known (name_of plan v) p line.told c
    (found_none (λ (l : Tell). told_faults (name_of plan v) p l.told) (λ (l : Tell). l.viewpoint == v) (λ (l : Tell). l.prop == k) plan.tells line (sym is) none) e

pub fixed_within : (plan : MapValue) (v k : ℕ) (p : Viewpoint) (c : ℕ) → IsFaultless plan v p → fixed plan v p k ≡ Some c → c < length p.lattice.names
fixed_within plan v k p c h e = fixed_known plan v k p (line_of plan v k) c refl h.tells e
