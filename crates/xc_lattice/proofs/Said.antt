-- What a reader gathers from the statements of a whole file is what they say.
use Rattle.std.proofs.Common.{◌≡◌, ℕ, zero, suc, ◌<◌, ◌≤◌, Bool, true, false, cond, not, ◌||◌, List, [], ◌∷◌, Option, Some, None, length, get_or, inl, inr, refl, sym, ◌∙◌, subst, ap, arith}
use Rattle.std.specs.List.{list_all, list_any, find, Contains}
use Rattle.std.specs.Option.{option_map}
use Rattle.std.specs.Str.{bytes_eq}
use Rattle.std.proofs.lemmas.List.{length-map, get_or-map}
use Rattle.xc_base.specs.declared.fault.Part.TheVariants as parts
use Rattle.xc_theory.specs.Orders.{Leads, IsSquare, IsSpannedBy}
use Rattle.xc_theory.proofs.Orders.{spanned_refl, spanned_trans}
use Rattle.xc_order.specs.declared.order.Pair.{Pair}
use Rattle.xc_order.specs.Pairs.{IsListed, AreBelow}
use Rattle.xc_lattice.specs.declared.statement.Statement.{Statement}
use Rattle.xc_lattice.specs.declared.statement.Statement.TheVariants.{Lattice, Elements, Below, Not}
use Rattle.xc_lattice.specs.LatticeFiles.{LatticeValue, Says, SaysBelow, SaysNegation, negates, element_names, missing_part}
use Rattle.xc_base.specs.Words.{is_name}
use Rattle.xc_base.specs.Names.{has_twice, name_at, place_of}
use Rattle.xc_lattice.specs.Drafts.{IsDraft, file_name, pairs_of, negated_by, place_or_end, negation_place, negations_of, IsReady}
use Rattle.xc_lattice.proofs.Drafts.{Has, Has-from_Contains, Contains-from_Has}
use Rattle.xc_base.proofs.Naming.{same_bytes, among_in_range, name_at-place_of, place_of-name_at, in_range}
use Rattle.xc_lattice.proofs.Values.{the_name, the_names, known_below, known_not}
use Rattle.xc_lattice.proofs.Names.{missing_late}

-- A relation that says the same spans the same table.
Leads-map : (R Q : ℕ → ℕ → Type 0) → ((a b : ℕ) → R a b → Q a b) → (a : ℕ) (steps : List ℕ) (b : ℕ) → Leads R a steps b → Leads Q a steps b
Leads-map R Q h a [] b k = k
Leads-map R Q h a (x ∷ steps) b k = (h a x k.0, Leads-map R Q h x steps b k.1)

pub IsSpannedBy-map : (n : ℕ) (R Q : ℕ → ℕ → Type 0) (table : List (List Bool)) → ((a b : ℕ) → R a b → Q a b) → ((a b : ℕ) → Q a b → R a b) → IsSpannedBy n R table → IsSpannedBy n Q table
IsSpannedBy-map n R Q table to from h =
    record {
      square = h.square;
      reached = λ a b a_in b_in e. let steps = h.reached a b a_in b_in e in (steps.0, Leads-map R Q to a steps.0 b steps.1);
      below = λ a b a_in b_in k. h.below a b a_in b_in (k.0, Leads-map Q R from a k.0 b k.1);
    }

-- the pair of two names
abbrev pair : List (List ℕ) → List ℕ → List ℕ → Pair
pair names low high = record { low = place_of names low; high = place_of names high }

same_low : (a b low high : List ℕ) → Below a b ≡ Below low high → a ≡ low
same_low a b low high e = cc

same_high : (a b low high : List ℕ) → Below a b ≡ Below low high → b ≡ high
same_high a b low high e = cc

same_pair : (names : List (List ℕ)) (a b low high : List ℕ) → Below a b ≡ Below low high → pair names a b ≡ pair names low high
same_pair names a b low high e = ap (λ x. pair names x b) (same_low a b low high e) ∙ ap (λ y. pair names low y) (same_high a b low high e)

-- each statement gives its pair
listed : (names : List (List ℕ)) (ss : List Statement) (low high : List ℕ) → Has ss (Below low high) → Has (pairs_of names ss) (pair names low high)
listed names [] low high h = absurd h
listed names (Lattice name ∷ more) low high (inl e) = cc
listed names (Lattice name ∷ more) low high (inr h) = listed names more low high h
listed names (Elements others ∷ more) low high (inl e) = cc
listed names (Elements others ∷ more) low high (inr h) = listed names more low high h
listed names (Not element negated ∷ more) low high (inl e) = cc
listed names (Not element negated ∷ more) low high (inr h) = listed names more low high h
listed names (Below a b ∷ more) low high (inl e) = inl (same_pair names a b low high e)
listed names (Below a b ∷ more) low high (inr h) = inr (listed names more low high h)

-- and each pair is that of a statement
pub record Stated (names : List (List ℕ)) (ss : List Statement) (p : Pair) : Type 0 where
  pub low : List ℕ
  pub high : List ℕ
  pub has : Has ss (Below low high)
  pub is : p ≡ pair names low high

stated_more : (names : List (List ℕ)) (s : Statement) (ss : List Statement) (p : Pair) → Stated names ss p → Stated names (s ∷ ss) p
stated_more names s ss p h = record { low = h.low; high = h.high; has = inr h.has; is = h.is }

stated : (names : List (List ℕ)) (ss : List Statement) (p : Pair) → Has (pairs_of names ss) p → Stated names ss p
stated names [] p h = absurd h
stated names (Lattice name ∷ more) p h = stated_more names (Lattice name) more p (stated names more p h)
stated names (Elements others ∷ more) p h = stated_more names (Elements others) more p (stated names more p h)
stated names (Not element negated ∷ more) p h = stated_more names (Not element negated) more p (stated names more p h)
stated names (Below a b ∷ more) p (inl e) = record { low = a; high = b; has = inl refl; is = sym e }
stated names (Below a b ∷ more) p (inr h) = stated_more names (Below a b) more p (stated names more p h)

-- a fact of each element, by place
All-from_Has : {X : Type 0} (P : X → Type 0) (xs : List X) → ((x : X) → Has xs x → P x) → (k : ℕ) (d : X) → k < length xs → P (get_or xs k d)
All-from_Has P [] h k d within = absurd (omega arith)
All-from_Has P (x ∷ xs) h zero d within = h x (inl refl)
All-from_Has P (x ∷ xs) h (suc k) d within = All-from_Has P xs (λ y j. h y (inr j)) k d (omega arith)

-- the order that the pairs span, and their elements
module _ (ss : List Statement) (d : IsDraft ss) where
  pair_in_range : (p : Pair) → Has (pairs_of d.names ss) p → (p.low < length d.names) × (p.high < length d.names)
  pair_in_range p h =
      let st = stated d.names ss p h in
      let known = known_below ss d st.low st.high (Contains-from_Has ss (Below st.low st.high) st.has) in
      subst (λ (q : Pair). (q.low < length d.names) × (q.high < length d.names)) (sym st.is)
      (among_in_range d.names st.low known.0, among_in_range d.names st.high known.1)

  pub pairs_in_range : AreBelow (length d.names) (pairs_of d.names ss)
  pairs_in_range = All-from_Has (λ (p : Pair). (p.low < length d.names) × (p.high < length d.names)) (pairs_of d.names ss) pair_in_range

  listed_is_said : (a b : ℕ) → IsListed (pairs_of d.names ss) a b → SaysBelow ss d.names a b
  listed_is_said a b h =
      let st = stated d.names ss (record { low = a; high = b }) (Has-from_Contains (pairs_of d.names ss) (record { low = a; high = b }) h) in
      let is_said = Contains-from_Has ss (Below st.low st.high) st.has in
      let known = known_below ss d st.low st.high is_said in
      let low : name_at d.names a ≡ st.low = ap (λ (p : Pair). name_at d.names p.low) st.is ∙ name_at-place_of d.names st.low known.0 in
      let high : name_at d.names b ≡ st.high = ap (λ (p : Pair). name_at d.names p.high) st.is ∙ name_at-place_of d.names st.high known.1 in
      subst (λ (x : List ℕ). Contains ss (Below x (name_at d.names b))) (sym low)
      (subst (λ (y : List ℕ). Contains ss (Below st.low y)) (sym high) is_said)

  said_is_listed : (a b : ℕ) → SaysBelow ss d.names a b → IsListed (pairs_of d.names ss) a b
  said_is_listed a b h =
      let known = known_below ss d (name_at d.names a) (name_at d.names b) h in
      let low = place_of-name_at d.names a d.different (in_range d.names a d.named known.0) in
      let high = place_of-name_at d.names b d.different (in_range d.names b d.named known.1) in
      let has = listed d.names ss (name_at d.names a) (name_at d.names b) (Has-from_Contains ss (Below (name_at d.names a) (name_at d.names b)) h) in
      subst (λ (x : ℕ). IsListed (pairs_of d.names ss) x b) low
      (subst (λ (y : ℕ). IsListed (pairs_of d.names ss) (place_of d.names (name_at d.names a)) y) high
      (Contains-from_Has (pairs_of d.names ss) (pair d.names (name_at d.names a) (name_at d.names b)) has))

-- where no part lacks, each element has a negation
some_is_not : {X : Type 0} (x : X) → Some x ≡ None → ⊥
some_is_not x e = cc

no_part : (o : Option (List ℕ)) → option_map parts.Not o ≡ None → o ≡ None
no_part None h = refl
no_part (Some name) h = absurd (some_is_not (parts.Not name) h)

find_cond : {X : Type 0} (b : Bool) (x : X) (rest : Option X) → cond b (Some x) rest ≡ None → (b ≡ false) × (rest ≡ None)
find_cond true x rest h = absurd (some_is_not x h)
find_cond false x rest h = (refl, h)

find_none : {X : Type 0} (p : X → Bool) (xs : List X) → find p xs ≡ None → (k : ℕ) (d : X) → k < length xs → p (get_or xs k d) ≡ false
find_none p [] h k d within = absurd (omega arith)
find_none p (x ∷ xs) h zero d within = (find_cond (p x) x (find p xs) h).0
find_none p (x ∷ xs) h (suc k) d within = find_none p xs (find_cond (p x) x (find p xs) h).1 k d (omega arith)

not_false : (b : Bool) → not b ≡ false → b ≡ true
not_false true h = refl
not_false false h = sym h

pub record Negated (ss : List Statement) (name : List ℕ) : Type 0 where
  pub negated : List ℕ
  pub found : negated_by ss name ≡ Some negated
  pub has : Has ss (Not name negated)

not_true : false ≡ true → ⊥
not_true e = cc

negated_more : (ss : List Statement) (s : Statement) (name : List ℕ) → negated_by (s ∷ ss) name ≡ negated_by ss name → Negated ss name → Negated (s ∷ ss) name
negated_more ss s name e h = record { negated = h.negated; found = e ∙ h.found; has = inr h.has }

negated_here : (ss : List Statement) (element negated name : List ℕ) (b : Bool) → bytes_eq name element ≡ b → (b || list_any (negates name) ss) ≡ true
    → (list_any (negates name) ss ≡ true → Negated ss name) → Negated (Not element negated ∷ ss) name
negated_here ss element negated name true e h rest =
    record { negated = negated; found = rw e; has = inl (ap (λ x. Not x negated) (sym (same_bytes name element e))) }
negated_here ss element negated name false e h rest = negated_more ss (Not element negated) name (rw e) (rest h)

negated_found : (ss : List Statement) (name : List ℕ) → list_any (negates name) ss ≡ true → Negated ss name
negated_found [] name h = absurd (not_true h)
negated_found (Lattice other ∷ more) name h = negated_more more (Lattice other) name refl (negated_found more name h)
negated_found (Elements others ∷ more) name h = negated_more more (Elements others) name refl (negated_found more name h)
negated_found (Below low high ∷ more) name h = negated_more more (Below low high) name refl (negated_found more name h)
negated_found (Not element negated ∷ more) name h =
    negated_here more element negated name (bytes_eq name element) refl h (negated_found more name)

two_at_least : (ss : List Statement) (d : IsDraft ss) → 2 ≤ length ss
two_at_least ss d = omega (arith, ap length d.parts)

module _ (ss : List Statement) (d : IsDraft ss) (whole : missing_part ss ≡ None) where
  the_elements : element_names ss ≡ d.names
  the_elements = ap element_names d.parts

  the_file_name : (name : List ℕ) → file_name ss ≡ Some name → d.name ≡ name
  the_file_name name h = let e : Some d.name ≡ Some name = sym (ap file_name d.parts) ∙ h in cc

  each_negated : (a : ℕ) → a < length d.names → list_any (negates (name_at d.names a)) ss ≡ true
  each_negated a within =
      let none : find (λ name. not (list_any (negates name) ss)) (element_names ss) ≡ None =
      no_part (find (λ name. not (list_any (negates name) ss)) (element_names ss)) (sym (missing_late ss (two_at_least ss d)) ∙ whole) in
      not_false (list_any (negates (name_at d.names a)) ss)
      (find_none (λ name. not (list_any (negates name) ss)) d.names
      (subst (λ (names : List (List ℕ)). find (λ name. not (list_any (negates name) ss)) names ≡ None) the_elements none) a [] within)

  place_negated : (name : List ℕ) → Negated ss name → (negation_place d.names ss name < length d.names) × (Contains ss (Not name (name_at d.names (negation_place d.names ss name))))
  place_negated name h =
      let is_said = Contains-from_Has ss (Not name h.negated) h.has in
      let known = known_not ss d name h.negated is_said in
      let at : negation_place d.names ss name ≡ place_of d.names h.negated = ap (place_or_end d.names) h.found in
      let same : name_at d.names (negation_place d.names ss name) ≡ h.negated = ap (name_at d.names) at ∙ name_at-place_of d.names h.negated known.1 in (
        subst (λ (x : ℕ). x < length d.names) (sym at) (among_in_range d.names h.negated known.1),
        subst (λ (x : List ℕ). Contains ss (Not name x)) (sym same) is_said,
      )

  negation_said : (a x : ℕ) → a < length d.names → x ≡ negation_place d.names ss (name_at d.names a) → (x < length d.names) × SaysNegation ss d.names a x
  negation_said a x within e =
      subst (λ (y : ℕ). (y < length d.names) × SaysNegation ss d.names a y) (sym e)
      (place_negated (name_at d.names a) (negated_found ss (name_at d.names a) (each_negated a within)))

  pub gathered_says : (negations : List ℕ) (table : List (List Bool)) → negations ≡ negations_of d.names ss → IsSpannedBy (length d.names) (IsListed (pairs_of d.names ss)) table
      → Says ss (record { name = d.name; names = d.names; algebra = record { order = table; negations = negations } })
  gathered_says negations table e h =
      record {
        name = Contains-from_Has ss (Lattice d.name) (subst (λ (xs : List Statement). Has xs (Lattice d.name)) (sym d.parts) (inl refl));
        names = Contains-from_Has ss (Elements d.names) (subst (λ (xs : List Statement). Has xs (Elements d.names)) (sym d.parts) (inr (inl refl)));
        order = IsSpannedBy-map (length d.names) (IsListed (pairs_of d.names ss)) (SaysBelow ss d.names) table (listed_is_said ss d) (said_is_listed ss d) h;
        negations = ap length e ∙ length-map d.names (negation_place d.names ss);
        negated = λ a within. negation_said a (get_or negations a 0) within (ap (λ (xs : List ℕ). get_or xs a 0) e ∙ get_or-map (negation_place d.names ss) d.names a [] 0 within);
      }

  pub says_gathered : (name : List ℕ) (names : List (List ℕ)) (negations : List ℕ) (table : List (List Bool)) → file_name ss ≡ Some name → names ≡ element_names ss → negations ≡ negations_of names ss
      → IsSpannedBy (length names) (IsListed (pairs_of names ss)) table → Says ss (record { name = name; names = names; algebra = record { order = table; negations = negations } })
  says_gathered name names negations table en es e h =
      let same : d.names ≡ names = sym the_elements ∙ sym es in
      let of_names : negations ≡ negations_of names ss → IsSpannedBy (length names) (IsListed (pairs_of names ss)) table → Says ss (record { name = d.name; names = names; algebra = record { order = table; negations = negations } }) =
      subst (λ (ns : List (List ℕ)). negations ≡ negations_of ns ss → IsSpannedBy (length ns) (IsListed (pairs_of ns ss)) table → Says ss (record { name = d.name; names = ns; algebra = record { order = table; negations = negations } })) same (gathered_says negations table) in
      subst (λ (n : List ℕ). Says ss (record { name = n; names = names; algebra = record { order = table; negations = negations } })) (the_file_name name en) (of_names e h)

  -- with copies of the names that are read
  pub says_read : (name n : List ℕ) (names read : List (List ℕ)) (pairs : List Pair) (negations : List ℕ) (table : List (List Bool))
      → Some n ≡ file_name ss → read ≡ element_names ss → pairs ≡ pairs_of read ss → IsSpannedBy (length read) (IsListed pairs) table → negations ≡ negations_of read ss
      → name ≡ n → names ≡ read → Says ss (record { name = name; names = names; algebra = record { order = table; negations = negations } })
  says_read name n names read pairs negations table en es ep h e same_name same_names =
      let of_read : Says ss (record { name = n; names = read; algebra = record { order = table; negations = negations } }) =
      says_gathered n read negations table (sym en) es e (subst (λ (ps : List Pair). IsSpannedBy (length read) (IsListed ps) table) ep h) in
      subst (λ (x : List ℕ). Says ss (record { name = x; names = names; algebra = record { order = table; negations = negations } })) (sym same_name)
      (subst (λ (xs : List (List ℕ)). Says ss (record { name = n; names = xs; algebra = record { order = table; negations = negations } })) (sym same_names) of_read)

-- what a reader may ask of the statements of a whole file
module _ (ss : List Statement) (d : IsDraft ss) where
  pub elements_in_limits : (2 ≤ length (element_names ss)) × (length (element_names ss) ≤ 64)
  elements_in_limits = let e : length (element_names ss) ≡ length d.names = ap (λ xs. length (element_names xs)) d.parts in (omega (arith, d.some), omega (arith, d.few))

  pub elements_paired : (names : List (List ℕ)) (pairs : List Pair) → names ≡ element_names ss → pairs ≡ pairs_of names ss → AreBelow (length names) pairs
  elements_paired names pairs e f =
      let same : d.names ≡ names = sym (ap element_names d.parts) ∙ sym e in
      let all : AreBelow (length names) (pairs_of names ss) = subst (λ (ns : List (List ℕ)). AreBelow (length ns) (pairs_of ns ss)) same (pairs_in_range ss d) in
      subst (λ (ps : List Pair). AreBelow (length names) ps) (sym f) all

  pub file_is_named : file_name ss ≡ None → ⊥
  file_is_named h = some_is_not d.name (sym (ap file_name d.parts) ∙ h)

-- what is said is fit to be judged
pub IsReady-from_Says : (ss : List Statement) (d : IsDraft ss) (v : LatticeValue) → Says ss v → IsReady v
IsReady-from_Says ss d v h =
    let names : d.names ≡ v.names = the_names ss d v.names h.names in
    let n : length v.algebra.order ≡ length v.names = h.order.square.rows in
    let lengths : length d.names ≡ length v.names = ap length names in
    record {
      shape = record {
        square = subst (λ (k : ℕ). IsSquare k v.algebra.order) (sym n) h.order.square;
        negations = h.negations ∙ sym n;
        in_range = λ a within. let at : a < length v.names = omega arith in let said = (h.negated a at).0 in omega arith;
      };
      reflexive = λ a within. spanned_refl (length v.names) (SaysBelow ss v.names) v.algebra.order h.order a (omega arith);
      transitive = λ a b c a_in b_in c_in. spanned_trans (length v.names) (SaysBelow ss v.names) v.algebra.order h.order a b c (omega arith) (omega arith) (omega arith);
      titled = subst (λ (name : List ℕ). is_name name ≡ true) (the_name ss d v.name h.name) d.titled;
      named = sym n;
      names_are = subst (λ (ns : List (List ℕ)). list_all is_name ns ≡ true) names d.named;
      different = subst (λ (ns : List (List ℕ)). has_twice ns ≡ false) names d.different;
      some = omega (arith, d.some);
      few = omega (arith, d.few);
    }
