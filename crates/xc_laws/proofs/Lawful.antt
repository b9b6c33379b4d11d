-- Lattice data that break no law are lawful.
use Rattle.std.proofs.Common.{◌≡◌, ℕ, ◌<◌, Bool, true, false, ◌&&◌, not, eqb, List, [], ◌∷◌, Option, Some, None, is_none, unwrap_or, refl, sym, arith}
use Rattle.std.specs.List.{find}
use Rattle.std.proofs.lemmas.Bool.{both_ways, eqb-true, not-false}
use Rattle.std.proofs.lemmas.Option.{none-some}
use Rattle.xc_theory.specs.Bounds.{IsMeet, IsJoin, first_meet, first_join}
use Rattle.xc_theory.specs.Lattices.{LatticeData, size, below, meet, join, negation, IsWellShaped, IsLawful}
use Rattle.xc_theory.proofs.Bounds.{meets_are_found, joins_are_found}
use Rattle.xc_laws.specs.Breaks.{tuples, breaks, first_tuple, or_next, first_of, first_break}
use Rattle.xc_laws.specs.declared.breaks.Break.{Break}
use Rattle.xc_laws.specs.declared.law.Law.{Law}
use Rattle.xc_laws.specs.declared.law.Law.TheVariants.{Antisymmetry, Meet, Join, Distributive, Involution, Antitone}
use Rattle.xc_laws.proofs.Finding.{tuples_none_at, tuples_none_last}

next_none : (o : Option (List ℕ)) (law : Law) (next : Option Break) → or_next o law next ≡ None → (o ≡ None) × (next ≡ None)
next_none None law next h = (refl, h)
next_none (Some t) law next h = absurd (none-some (record { law = law; elements = t }) (sym h))

-- each law has no tuple that breaks it
record BreaksNone (l : LatticeData) : Type 0 where
  antisymmetry : first_tuple l Antisymmetry ≡ None
  meets : first_tuple l Meet ≡ None
  joins : first_tuple l Join ≡ None
  distribution : first_tuple l Distributive ≡ None
  involution : first_tuple l Involution ≡ None
  antitone : first_tuple l Antitone ≡ None

breaks_none : (l : LatticeData) → first_break l ≡ None → BreaksNone l
unfolding first_break
breaks_none l h =
    let a = next_none (first_tuple l Antisymmetry) Antisymmetry (first_of l (Meet ∷ Join ∷ Distributive ∷ Involution ∷ Antitone ∷ [])) h in
    let b = next_none (first_tuple l Meet) Meet (first_of l (Join ∷ Distributive ∷ Involution ∷ Antitone ∷ [])) a.1 in
    let c = next_none (first_tuple l Join) Join (first_of l (Distributive ∷ Involution ∷ Antitone ∷ [])) b.1 in
    let d = next_none (first_tuple l Distributive) Distributive (first_of l (Involution ∷ Antitone ∷ [])) c.1 in
    let e = next_none (first_tuple l Involution) Involution (first_of l (Antitone ∷ [])) d.1 in
    let f = next_none (first_tuple l Antitone) Antitone None e.1 in
    record { antisymmetry = a.0; meets = b.0; joins = c.0; distribution = d.0; involution = e.0; antitone = f.0 }

one_holds : (p : List ℕ → Bool) (n a : ℕ) → find p (tuples n 1) ≡ None → a < n → p (a ∷ []) ≡ false
one_holds p n a h a_in = tuples_none_last (λ t. p (a ∷ t)) n (tuples_none_at p n 0 a h a_in)

two_hold : (p : List ℕ → Bool) (n a b : ℕ) → find p (tuples n 2) ≡ None → a < n → b < n → p (a ∷ b ∷ []) ≡ false
two_hold p n a b h a_in b_in = one_holds (λ t. p (a ∷ t)) n b (tuples_none_at p n 1 a h a_in) b_in

three_hold : (p : List ℕ → Bool) (n a b c : ℕ) → find p (tuples n 3) ≡ None → a < n → b < n → c < n → p (a ∷ b ∷ c ∷ []) ≡ false
three_hold p n a b c h a_in b_in c_in = two_hold (λ t. p (a ∷ t)) n b c (tuples_none_at p n 2 a h a_in) b_in c_in

involution_holds : (l : LatticeData) (a : ℕ) → first_tuple l Involution ≡ None → a < size l → breaks l Involution (a ∷ []) ≡ false
unfolding first_tuple
involution_holds l a h a_in = one_holds (breaks l Involution) (size l) a h a_in

antisymmetry_holds : (l : LatticeData) (a b : ℕ) → first_tuple l Antisymmetry ≡ None → a < size l → b < size l → breaks l Antisymmetry (a ∷ b ∷ []) ≡ false
unfolding first_tuple
antisymmetry_holds l a b h a_in b_in = two_hold (breaks l Antisymmetry) (size l) a b h a_in b_in

meet_holds : (l : LatticeData) (a b : ℕ) → first_tuple l Meet ≡ None → a < size l → b < size l → breaks l Meet (a ∷ b ∷ []) ≡ false
unfolding first_tuple
meet_holds l a b h a_in b_in = two_hold (breaks l Meet) (size l) a b h a_in b_in

join_holds : (l : LatticeData) (a b : ℕ) → first_tuple l Join ≡ None → a < size l → b < size l → breaks l Join (a ∷ b ∷ []) ≡ false
unfolding first_tuple
join_holds l a b h a_in b_in = two_hold (breaks l Join) (size l) a b h a_in b_in

antitone_holds : (l : LatticeData) (a b : ℕ) → first_tuple l Antitone ≡ None → a < size l → b < size l → breaks l Antitone (a ∷ b ∷ []) ≡ false
unfolding first_tuple
antitone_holds l a b h a_in b_in = two_hold (breaks l Antitone) (size l) a b h a_in b_in

distribution_holds : (l : LatticeData) (a b c : ℕ) → first_tuple l Distributive ≡ None → a < size l → b < size l → c < size l → breaks l Distributive (a ∷ b ∷ c ∷ []) ≡ false
unfolding first_tuple
distribution_holds l a b c h a_in b_in c_in = three_hold (breaks l Distributive) (size l) a b c h a_in b_in c_in

same_from_test : (x y : ℕ) → not (eqb x y) ≡ false → x ≡ y
same_from_test x y h = eqb-true x y (not-false (eqb x y) h)

-- a test that is true and another one are not both so
not_both : (x y z : Bool) → (not x && y && z) ≡ false → y ≡ true → z ≡ true → x ≡ true
not_both x y z h ey ez = grind arith

follows : (x y : Bool) → (x && not y) ≡ false → x ≡ true → y ≡ true
follows x y h e = grind arith

bound_is : (P : ℕ → Type 0) (o : Option ℕ) → is_none o ≡ false → ((m : ℕ) → o ≡ Some m → P m) → P (unwrap_or o 0)
bound_is P None h each = absurd (both_ways true h refl)
bound_is P (Some m) h each = each m refl

pub lawful_from_no_break : (l : LatticeData) → IsWellShaped l
    → ((a : ℕ) → a < size l → below l a a ≡ true)
    → ((a b c : ℕ) → a < size l → b < size l → c < size l → below l a b ≡ true → below l b c ≡ true → below l a c ≡ true)
    → first_break l ≡ None → IsLawful l
lawful_from_no_break l shape reflexive transitive h =
    let none : BreaksNone l = breaks_none l h in
    record {
      shape = shape;
      reflexive = reflexive;
      transitive = transitive;
      antisymmetric = λ a b a_in b_in ab ba. eqb-true a b (not_both (eqb a b) (below l a b) (below l b a) (antisymmetry_holds l a b none.antisymmetry a_in b_in) ab ba);
      meets = λ a b a_in b_in.
          bound_is (IsMeet l.order (a ∷ b ∷ [])) (first_meet l.order (a ∷ b ∷ [])) (meet_holds l a b none.meets a_in b_in) (meets_are_found l.order (a ∷ b ∷ []));
      joins = λ a b a_in b_in.
          bound_is (IsJoin l.order (a ∷ b ∷ [])) (first_join l.order (a ∷ b ∷ [])) (join_holds l a b none.joins a_in b_in) (joins_are_found l.order (a ∷ b ∷ []));
      distributive = λ a b c a_in b_in c_in. same_from_test (meet l a (join l b c)) (join l (meet l a b) (meet l a c)) (distribution_holds l a b c none.distribution a_in b_in c_in);
      involution = λ a a_in. same_from_test (negation l (negation l a)) a (involution_holds l a none.involution a_in);
      antitone = λ a b a_in b_in ab. follows (below l a b) (below l (negation l b) (negation l a)) (antitone_holds l a b none.antitone a_in b_in) ab;
    }
