-- What the statements of a whole file say is one value.
use Rattle.std.proofs.Common.{◌≡◌, ℕ, ◌<◌, Bool, true, false, ◌||◌, List, [], ◌∷◌, ◌++◌, length, inl, inr, refl, sym, ◌∙◌, subst, ap, arith, ext_get_or}
use Rattle.std.specs.List.{list_any, Contains}
use Rattle.std.proofs.lemmas.Bool.{both_ways}
use Rattle.std.proofs.lemmas.List.Folds.{list_any-append}
use Rattle.xc_theory.specs.Orders.{IsSpannedBy}
use Rattle.xc_theory.specs.Lattices.{LatticeData, negation}
use Rattle.xc_theory.proofs.Orders.{spanned_once}
use Rattle.xc_lattice.specs.declared.statement.Statement.{Statement}
use Rattle.xc_lattice.specs.declared.statement.Statement.TheVariants.{Lattice, Elements, Below, Not}
use Rattle.xc_lattice.specs.LatticeFiles.{LatticeValue, Says, SaysBelow, SaysNegation, negates}
use Rattle.xc_base.specs.Names.{has_twice, is_among, name_at}
use Rattle.xc_lattice.specs.Drafts.{IsFact, AreFacts, IsDraft}
use Rattle.xc_base.proofs.Naming.{bytes_refl}
use Rattle.xc_lattice.proofs.Drafts.{Has, Has-from_Contains}
use Rattle.xc_base.proofs.Naming.{or_false_left, same_place}

-- what facts on elements name, and that they negate an element once
module _ (names : List (List ℕ)) where
  pub below_known : (before more : List Statement) (a b : List ℕ) → AreFacts names before more → Has more (Below a b) → (is_among names a ≡ true) × (is_among names b ≡ true)
  below_known before [] a b h k = absurd k
  below_known before (s ∷ more) a b h (inl e) = subst (IsFact names before) e h.0
  below_known before (s ∷ more) a b h (inr k) = below_known (before ++ s ∷ []) more a b h.1 k

  pub not_known : (before more : List Statement) (a b : List ℕ) → AreFacts names before more → Has more (Not a b) → (is_among names a ≡ true) × (is_among names b ≡ true) × (list_any (negates a) before ≡ false)
  not_known before [] a b h k = absurd k
  not_known before (s ∷ more) a b h (inl e) = subst (IsFact names before) e h.0
  not_known before (s ∷ more) a b h (inr k) =
      let rest = not_known (before ++ s ∷ []) more a b h.1 k in
      (rest.0, rest.1, or_false_left (list_any (negates a) before) (list_any (negates a) (s ∷ [])) (sym (list_any-append (negates a) before (s ∷ [])) ∙ rest.2))

  no_name : (before more : List Statement) (n : List ℕ) → AreFacts names before more → Has more (Lattice n) → ⊥
  no_name before [] n h k = k
  no_name before (s ∷ more) n h (inl e) = subst (IsFact names before) e h.0
  no_name before (s ∷ more) n h (inr k) = no_name (before ++ s ∷ []) more n h.1 k

  no_elements : (before more : List Statement) (es : List (List ℕ)) → AreFacts names before more → Has more (Elements es) → ⊥
  no_elements before [] es h k = k
  no_elements before (s ∷ more) es h (inl e) = subst (IsFact names before) e h.0
  no_elements before (s ∷ more) es h (inr k) = no_elements (before ++ s ∷ []) more es h.1 k

  or_true : (a b c : Bool) → b ≡ true → (a || (b || c)) ≡ true
  or_true true b c e = refl
  or_true false true c e = refl
  or_true false false c e = cc

  negated_at_end : (before : List Statement) (s : Statement) (a x : List ℕ) → s ≡ Not a x → list_any (negates a) (before ++ s ∷ []) ≡ true
  negated_at_end before s a x e =
      list_any-append (negates a) before (s ∷ [])
      ∙ or_true (list_any (negates a) before) (negates a s) false (subst (λ (t : Statement). negates a t ≡ true) (sym e) (bytes_refl a))

  not_twice : (before more : List Statement) (s : Statement) (a x y : List ℕ) → AreFacts names (before ++ s ∷ []) more → s ≡ Not a x → Has more (Not a y) → ⊥
  not_twice before more s a x y h e k =
      both_ways (list_any (negates a) (before ++ s ∷ [])) (not_known (before ++ s ∷ []) more a y h k).2 (negated_at_end before s a x e)

  same_negated : (s : Statement) (a x y : List ℕ) → s ≡ Not a x → s ≡ Not a y → x ≡ y
  same_negated s a x y e f = cc

  pub one_not : (before more : List Statement) (a x y : List ℕ) → AreFacts names before more → Has more (Not a x) → Has more (Not a y) → x ≡ y
  one_not before [] a x y h j k = absurd j
  one_not before (s ∷ more) a x y h (inl e) (inl f) = same_negated s a x y e f
  one_not before (s ∷ more) a x y h (inl e) (inr k) = absurd (not_twice before more s a x y h.1 e k)
  one_not before (s ∷ more) a x y h (inr j) (inl f) = absurd (not_twice before more s a y x h.1 f j)
  one_not before (s ∷ more) a x y h (inr j) (inr k) = one_not (before ++ s ∷ []) more a x y h.1 j k

-- what stands in the statements of a whole file
module _ (ss : List Statement) (d : IsDraft ss) where
  by_parts : (s : Statement) → Contains ss s → Has (Lattice d.name ∷ Elements d.names ∷ d.facts) s
  by_parts s h = subst (λ (xs : List Statement). Has xs s) d.parts (Has-from_Contains ss s h)

  name_by : (n : List ℕ) → Has (Lattice d.name ∷ Elements d.names ∷ d.facts) (Lattice n) → d.name ≡ n
  name_by n (inl e) = cc
  name_by n (inr (inl e)) = cc
  name_by n (inr (inr h)) = absurd (no_name d.names (Lattice d.name ∷ Elements d.names ∷ []) d.facts n d.known h)

  names_by : (es : List (List ℕ)) → Has (Lattice d.name ∷ Elements d.names ∷ d.facts) (Elements es) → d.names ≡ es
  names_by es (inl e) = cc
  names_by es (inr (inl e)) = cc
  names_by es (inr (inr h)) = absurd (no_elements d.names (Lattice d.name ∷ Elements d.names ∷ []) d.facts es d.known h)

  below_by : (a b : List ℕ) → Has (Lattice d.name ∷ Elements d.names ∷ d.facts) (Below a b) → Has d.facts (Below a b)
  below_by a b (inl e) = cc
  below_by a b (inr (inl e)) = cc
  below_by a b (inr (inr h)) = h

  not_by : (a b : List ℕ) → Has (Lattice d.name ∷ Elements d.names ∷ d.facts) (Not a b) → Has d.facts (Not a b)
  not_by a b (inl e) = cc
  not_by a b (inr (inl e)) = cc
  not_by a b (inr (inr h)) = h

  pub the_name : (n : List ℕ) → Contains ss (Lattice n) → d.name ≡ n
  the_name n h = name_by n (by_parts (Lattice n) h)

  pub the_names : (es : List (List ℕ)) → Contains ss (Elements es) → d.names ≡ es
  the_names es h = names_by es (by_parts (Elements es) h)

  pub known_below : (a b : List ℕ) → Contains ss (Below a b) → (is_among d.names a ≡ true) × (is_among d.names b ≡ true)
  known_below a b h = below_known d.names (Lattice d.name ∷ Elements d.names ∷ []) d.facts a b d.known (below_by a b (by_parts (Below a b) h))

  pub known_not : (a b : List ℕ) → Contains ss (Not a b) → (is_among d.names a ≡ true) × (is_among d.names b ≡ true)
  known_not a b h =
      let all = not_known d.names (Lattice d.name ∷ Elements d.names ∷ []) d.facts a b d.known (not_by a b (by_parts (Not a b) h)) in (all.0, all.1)

  pub the_negation : (a x y : List ℕ) → Contains ss (Not a x) → Contains ss (Not a y) → x ≡ y
  the_negation a x y h k =
      one_not d.names (Lattice d.name ∷ Elements d.names ∷ []) d.facts a x y d.known
      (not_by a x (by_parts (Not a x) h)) (not_by a y (by_parts (Not a y) k))

-- lists of negations that the statements say are the same
same_negations : (ss : List Statement) (d : IsDraft ss) (names : List (List ℕ)) (p q : LatticeData) → d.names ≡ names
    → length p.negations ≡ length names → length q.negations ≡ length names
    → ((a : ℕ) → a < length names → (negation p a < length names) × SaysNegation ss names a (negation p a))
    → ((a : ℕ) → a < length names → (negation q a < length names) × SaysNegation ss names a (negation q a))
    → p.negations ≡ q.negations
same_negations ss d names p q e lp lq hp hq =
    ext_get_or 0 p.negations q.negations (lp ∙ sym lq)
    (λ i within.
    let low : i < length names = omega (arith, lp) in
    let one = hp i low in let two = hq i low in
    same_place names (negation p i) (negation q i)
    (subst (λ (xs : List (List ℕ)). has_twice xs ≡ false) e d.different) one.0 two.0
    (the_negation ss d (name_at names i) (name_at names (negation p i)) (name_at names (negation q i)) one.1 two.1))

same_value : (n m : List ℕ) (ns ms : List (List ℕ)) (t u : List (List Bool)) (p q : List ℕ) → n ≡ m → ns ≡ ms → t ≡ u → p ≡ q
    → ◌≡◌ {A = LatticeValue} (record { name = n; names = ns; algebra = record { order = t; negations = p } }) (record { name = m; names = ms; algebra = record { order = u; negations = q } })
same_value n m ns ms t u p q e f g h = rw (e, f, g, h)

pub says_once : (ss : List Statement) (d : IsDraft ss) (v w : LatticeValue) → Says ss v → Says ss w → v ≡ w
says_once ss d v w hv hw =
    let names : v.names ≡ w.names = sym (the_names ss d v.names hv.names) ∙ the_names ss d w.names hw.names in
    let order : IsSpannedBy (length v.names) (SaysBelow ss v.names) w.algebra.order =
    subst (λ (ns : List (List ℕ)). IsSpannedBy (length ns) (SaysBelow ss ns) w.algebra.order) (sym names) hw.order in
    let negated : (a : ℕ) → a < length v.names → (negation w.algebra a < length v.names) × SaysNegation ss v.names a (negation w.algebra a) =
    subst (λ (ns : List (List ℕ)). (a : ℕ) → a < length ns → (negation w.algebra a < length ns) × SaysNegation ss ns a (negation w.algebra a)) (sym names) hw.negated in
    same_value v.name w.name v.names w.names v.algebra.order w.algebra.order v.algebra.negations w.algebra.negations
    (sym (the_name ss d v.name hv.name) ∙ the_name ss d w.name hw.name) names
    (spanned_once (length v.names) (SaysBelow ss v.names) v.algebra.order w.algebra.order hv.order order)
    (same_negations ss d v.names v.algebra w.algebra (the_names ss d v.names hv.names) hv.negations (hw.negations ∙ ap length (sym names)) hv.negated negated)
