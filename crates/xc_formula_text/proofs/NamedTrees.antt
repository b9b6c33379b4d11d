-- The propositions and elements of a formula that was read have names that can be read.
use Rattle.std.proofs.Common.{◌≡◌, ℕ, Bool, true, ◌&&◌, ◌||◌, ◌==◌, List, [], ◌∷◌, Option, Some, None, refl, sym, ◌∙◌, ap, subst}
use Rattle.std.specs.List.{list_all, position}
use Rattle.std.specs.Option.{option_map}
use Rattle.std.specs.Str.{bytes_eq}
use Rattle.std.proofs.lemmas.Bool.{and_from, or_left, or_right, eq-eqb}
use Rattle.std.proofs.lemmas.List.Quantifiers.{position-Some}
use Rattle.xc_theory.specs.Codes.{code_of, digits}
use Rattle.xc_theory.proofs.Codes.{digits_of_codes}
use Rattle.xc_base.specs.Names.{name_at}
use Rattle.xc_base.specs.Words.{is_name}
use Rattle.xc_base.proofs.Naming.{same_bytes}
use Rattle.xc_formula.specs.Written.{Written, Level, IsSpelled, is_prop_name}
use Rattle.xc_formula.specs.Written.IsSpelled.{truth, falsity, name, braces, prefixed, until, enclosed, factor, and, summand, or, conclusion, implies}
use Rattle.xc_ctl.specs.Trees.{Signature, Tree, Const, Atom, Not, And, Or, Ex, Eu, Au, Eg, sizes_of, both, digits_named}
use Rattle.xc_resolved.specs.Resolved.{resolved}
use Rattle.xc_resolved.specs.Resolved as resolving
use Rattle.xc_formula_text.specs.Texts.{digit_names}
use Rattle.xc_formula.specs.declared.prefix.Prefix.{Prefix}
use Rattle.xc_formula.specs.declared.prefix.Prefix.TheVariants.{Negation, SomeNext, AllNext, SomeFinally, AllFinally, SomeGlobally, AllGlobally}
use Rattle.xc_formula.specs.declared.prefix.Paths.{Paths}
use Rattle.xc_formula.specs.declared.prefix.Paths.TheVariants.{SomePath, EveryPath}
use Rattle.xc_formula_text.proofs.Ranges.{named_digits}

-- the names of an element are names, where they are printed
abbrev pub is_named_element : Signature → ℕ → Bool
is_named_element n c = c == n.top || c == n.bottom || list_all is_name (digit_names n.parts (digits (sizes_of n.parts) c))

-- propositions have names that are not reserved
abbrev pub is_named : Signature → Tree → Bool
is_named n (Const c) = is_named_element n c
is_named n (Atom p) = is_prop_name (name_at n.props p)
is_named n (Not t) = is_named n t
is_named n (And s t) = is_named n s && is_named n t
is_named n (Or s t) = is_named n s && is_named n t
is_named n (Ex t) = is_named n t
is_named n (Eu s t) = is_named n s && is_named n t
is_named n (Au s t) = is_named n s && is_named n t
is_named n (Eg t) = is_named n t

-- where there is a tree
abbrev has_names : Signature → Option Tree → Bool
has_names n None = true
has_names n (Some t) = is_named n t

-- digits have the names by which they were found
both_back : (names : List (List ℕ)) (parts : List (List (List ℕ))) (v : List ℕ) (values : List (List ℕ)) (o : Option ℕ) (p : Option (List ℕ)) (row : List ℕ) → position (bytes_eq v) names ≡ o
    → ((rest : List ℕ) → p ≡ Some rest → digit_names parts rest ≡ values) → both (λ (digit : ℕ) (rest : List ℕ). digit ∷ rest) o p ≡ Some row → digit_names (names ∷ parts) row ≡ v ∷ values
both_back names parts v values None p row e rest h = cc
both_back names parts v values (Some d) None row e rest h = cc
both_back names parts v values (Some d) (Some ds) row e rest h =
    let same : row ≡ d ∷ ds = cc in
    let found : v ≡ name_at names d = same_bytes v (name_at names d) (position-Some (bytes_eq v) names d [] e).1 in
    rw (same, sym found, rest ds refl) refl

names_back : (parts : List (List (List ℕ))) (values : List (List ℕ)) (row : List ℕ) → digits_named parts values ≡ Some row → digit_names parts row ≡ values
names_back [] [] row h = refl
names_back [] (v ∷ values) row h = cc
names_back (names ∷ parts) [] row h = cc
names_back (names ∷ parts) (v ∷ values) row h = both_back names parts v values (position (bytes_eq v) names) (digits_named parts values) row refl (names_back parts values) h

-- an element by names
element_named_so : (n : Signature) (values : List (List ℕ)) (o : Option (List ℕ)) → digits_named n.parts values ≡ o → list_all is_name values ≡ true
    → has_names n (option_map Const (option_map (code_of (sizes_of n.parts)) o)) ≡ true
element_named_so n values None e h = refl
element_named_so n values (Some row) e h =
    let digits_are : digits (sizes_of n.parts) (code_of (sizes_of n.parts) row) ≡ row = digits_of_codes (sizes_of n.parts) row (named_digits n.parts values row e) in
    let names_are : digit_names n.parts (digits (sizes_of n.parts) (code_of (sizes_of n.parts) row)) ≡ values = ap (digit_names n.parts) digits_are ∙ names_back n.parts values row e in
    or_right (code_of (sizes_of n.parts) row == n.top || code_of (sizes_of n.parts) row == n.bottom) _ (ap (list_all is_name) names_are ∙ h)

-- a proposition by its name
prop_named_so : (n : Signature) (p : List ℕ) (o : Option ℕ) → position (bytes_eq p) n.props ≡ o → is_prop_name p ≡ true → has_names n (option_map Atom o) ≡ true
prop_named_so n p None e h = refl
prop_named_so n p (Some k) e h =
    let found : p ≡ name_at n.props k = same_bytes p (name_at n.props k) (position-Some (bytes_eq p) n.props k [] e).1 in
    ap is_prop_name (sym found) ∙ h

module _ (n : Signature) where
  top_named : is_named n (Const n.top) ≡ true
  top_named = or_left _ _ (or_left _ _ (eq-eqb n.top n.top refl))

  bottom_named : is_named n (Const n.bottom) ≡ true
  bottom_named = or_left _ _ (or_right _ _ (eq-eqb n.bottom n.bottom refl))

  -- what is behind a prefix
  prefixed_named : (p : Prefix) (o : Option Tree) → has_names n o ≡ true → has_names n (option_map (resolving.prefixed n.top p) o) ≡ true
  prefixed_named p None h = refl
  prefixed_named Negation (Some t) h = h
  prefixed_named SomeNext (Some t) h = h
  prefixed_named AllNext (Some t) h = h
  prefixed_named SomeFinally (Some t) h = and_from _ _ top_named h
  prefixed_named AllFinally (Some t) h = and_from _ _ top_named h
  prefixed_named SomeGlobally (Some t) h = h
  prefixed_named AllGlobally (Some t) h = and_from _ _ top_named h

  -- two in brackets
  until_named : (q : Paths) (o p : Option Tree) → has_names n o ≡ true → has_names n p ≡ true → has_names n (both (resolving.until q) o p) ≡ true
  until_named q None p h k = refl
  until_named q (Some s) None h k = refl
  until_named SomePath (Some s) (Some t) h k = and_from _ _ h k
  until_named EveryPath (Some s) (Some t) h k = and_from _ _ h k

  -- both
  and_named : (o p : Option Tree) → has_names n o ≡ true → has_names n p ≡ true → has_names n (both And o p) ≡ true
  and_named None p h k = refl
  and_named (Some s) None h k = refl
  and_named (Some s) (Some t) h k = and_from _ _ h k

  -- one of two
  or_named : (o p : Option Tree) → has_names n o ≡ true → has_names n p ≡ true → has_names n (both Or o p) ≡ true
  or_named None p h k = refl
  or_named (Some s) None h k = refl
  or_named (Some s) (Some t) h k = and_from _ _ h k

  -- an implication
  implies_named : (o p : Option Tree) → has_names n o ≡ true → has_names n p ≡ true → has_names n (both (λ s t. Or (Not s) t) o p) ≡ true
  implies_named None p h k = refl
  implies_named (Some s) None h k = refl
  implies_named (Some s) (Some t) h k = and_from _ _ h k

-- so are those of a formula that tokens are
spelled_named : (n : Signature) (l : Level) (d : ℕ) (tokens : List (List ℕ)) (f : Written) → IsSpelled l d tokens f → has_names n (resolved n f) ≡ true
spelled_named n _ _ _ _ (truth d) = top_named n
spelled_named n _ _ _ _ (falsity d) = bottom_named n
spelled_named n _ _ _ _ (name d p h) = prop_named_so n p (position (bytes_eq p) n.props) refl h
spelled_named n _ _ _ _ (braces d v more h) = element_named_so n (v ∷ more) (digits_named n.parts (v ∷ more)) refl h
spelled_named n _ _ _ _ (prefixed d p tokens f s) = prefixed_named n p (resolved n f) (spelled_named n _ d tokens f s)
spelled_named n _ _ _ _ (until d q left right f g s t) = until_named n q (resolved n f) (resolved n g) (spelled_named n _ d left f s) (spelled_named n _ d right g t)
spelled_named n _ _ _ _ (enclosed d tokens f s) = spelled_named n _ d tokens f s
spelled_named n _ _ _ _ (factor d tokens f s) = spelled_named n _ d tokens f s
spelled_named n _ _ _ _ (and d left right f g s t) = and_named n (resolved n f) (resolved n g) (spelled_named n _ d left f s) (spelled_named n _ d right g t)
spelled_named n _ _ _ _ (summand d tokens f s) = spelled_named n _ d tokens f s
spelled_named n _ _ _ _ (or d left right f g s t) = or_named n (resolved n f) (resolved n g) (spelled_named n _ d left f s) (spelled_named n _ d right g t)
spelled_named n _ _ _ _ (conclusion d tokens f s) = spelled_named n _ d tokens f s
spelled_named n _ _ _ _ (implies d left right f g s t) = implies_named n (resolved n f) (resolved n g) (spelled_named n _ d left f s) (spelled_named n _ d right g t)

-- where its names are known
pub formula_named : (n : Signature) (l : Level) (d : ℕ) (tokens : List (List ℕ)) (f : Written) (t : Tree) → IsSpelled l d tokens f → resolved n f ≡ Some t → is_named n t ≡ true
formula_named n l d tokens f t s e = subst (λ (o : Option Tree). has_names n o ≡ true) e (spelled_named n l d tokens f s)
