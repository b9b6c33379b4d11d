-- The constants and propositions of a formula whose names are known are in range.
use Rattle.std.proofs.Common.{◌≡◌, ℕ, ◌+◌, Bool, true, nat_lt, List, [], ◌∷◌, ◌++◌, length, Option, Some, None, refl, ◌∙◌, subst}
use Rattle.std.specs.List.{list_all, position}
use Rattle.std.specs.Option.{option_map}
use Rattle.std.specs.Str.{bytes_eq}
use Rattle.std.proofs.lemmas.Bool.{and_parts, and_from, lt-ltb}
use Rattle.std.proofs.lemmas.List.Folds.{list_all-append}
use Rattle.xc_theory.specs.Codes.{total, code_of, AreDigits}
use Rattle.xc_theory.proofs.Codes.{codes_are_in_range}
use Rattle.xc_base.proofs.Naming.{found_in_range}
use Rattle.xc_formula.specs.Written.{Written, True, False, Name, Braces, Prefixed, Until, Implies}
use Rattle.xc_formula.specs.Written as written
use Rattle.xc_ctl.specs.Trees.{Signature, Tree, is_fit, sizes_of, both, digits_named, element_named}
use Rattle.xc_resolved.specs.Resolved.{resolved}
use Rattle.xc_resolved.specs.Resolved as resolving
use Rattle.xc_ctl.specs.Trees as trees
use Rattle.xc_ctl.specs.Tables.{size_of, nodes_from, is_kind_in, is_table_in}
use Rattle.xc_ctl.specs.Trees.{is_tree_in}
use Rattle.xc_formula_text.specs.FormulaFiles.{table_in, tables_of}
use Rattle.xc_ctl.specs.declared.kind.Kind.{Kind}
use Rattle.xc_formula.specs.declared.prefix.Prefix.{Prefix}
use Rattle.xc_formula.specs.declared.prefix.Prefix.TheVariants.{Negation, SomeNext, AllNext, SomeFinally, AllFinally, SomeGlobally, AllGlobally}
use Rattle.xc_formula.specs.declared.prefix.Paths.{Paths}
use Rattle.xc_formula.specs.declared.prefix.Paths.TheVariants.{SomePath, EveryPath}
use Rattle.xc_ctl.proofs.ElementCodes.{fit}

-- a digit and the digits behind it
both_digits : (names : List (List ℕ)) (parts : List (List (List ℕ))) (v : List ℕ) (o : Option ℕ) (p : Option (List ℕ)) (row : List ℕ) → position (bytes_eq v) names ≡ o
    → ((rest : List ℕ) → p ≡ Some rest → AreDigits (sizes_of parts) rest) → both (λ (digit : ℕ) (rest : List ℕ). digit ∷ rest) o p ≡ Some row → AreDigits (sizes_of (names ∷ parts)) row
both_digits names parts v None p row e rest h = cc
both_digits names parts v (Some d) None row e rest h = cc
both_digits names parts v (Some d) (Some ds) row e rest h =
    let same : d ∷ ds ≡ row = cc in
    subst (AreDigits (sizes_of (names ∷ parts))) same (found_in_range names v d e, rest ds refl)

-- named digits are digits
pub named_digits : (parts : List (List (List ℕ))) (values : List (List ℕ)) (row : List ℕ) → digits_named parts values ≡ Some row → AreDigits (sizes_of parts) row
named_digits [] [] row h = let same : [] ≡ row = cc in subst (AreDigits []) same tt
named_digits [] (v ∷ values) row h = cc
named_digits (names ∷ parts) [] row h = cc
named_digits (names ∷ parts) (v ∷ values) row h = both_digits names parts v (position (bytes_eq v) names) (digits_named parts values) row refl (named_digits parts values) h

-- whether a tree is in range, where there is one
abbrev is_in : ℕ → ℕ → Option Tree → Bool
is_in elements props None = true
is_in elements props (Some t) = is_tree_in elements props t

-- a place that is found
atom_in : (elements : ℕ) (names : List (List ℕ)) (name : List ℕ) (o : Option ℕ) → position (bytes_eq name) names ≡ o → is_in elements (length names) (option_map trees.Atom o) ≡ true
atom_in elements names name None e = refl
atom_in elements names name (Some p) e = lt-ltb p (length names) (found_in_range names name p e)

-- an element that is named
const_in : (props : ℕ) (parts : List (List (List ℕ))) (values : List (List ℕ)) (o : Option (List ℕ)) → digits_named parts values ≡ o → is_in (total (sizes_of parts)) props (option_map trees.Const (option_map (code_of (sizes_of parts)) o)) ≡ true
const_in props parts values None e = refl
const_in props parts values (Some row) e = lt-ltb (code_of (sizes_of parts) row) (total (sizes_of parts)) (codes_are_in_range (sizes_of parts) row (named_digits parts values row e))

module _ (elements props : ℕ) where
  -- what is behind a prefix
  prefixed_in : (top : ℕ) (p : Prefix) (o : Option Tree) → nat_lt top elements ≡ true → is_in elements props o ≡ true → is_in elements props (option_map (resolving.prefixed top p) o) ≡ true
  prefixed_in top p None g h = refl
  prefixed_in top Negation (Some t) g h = h
  prefixed_in top SomeNext (Some t) g h = h
  prefixed_in top AllNext (Some t) g h = h
  prefixed_in top SomeFinally (Some t) g h = and_from _ _ g h
  prefixed_in top AllFinally (Some t) g h = and_from _ _ g h
  prefixed_in top SomeGlobally (Some t) g h = h
  prefixed_in top AllGlobally (Some t) g h = and_from _ _ g h

  -- two in brackets
  until_in : (q : Paths) (o p : Option Tree) → is_in elements props o ≡ true → is_in elements props p ≡ true → is_in elements props (both (resolving.until q) o p) ≡ true
  until_in q None p h k = refl
  until_in q (Some s) None h k = refl
  until_in SomePath (Some s) (Some t) h k = and_from _ _ h k
  until_in EveryPath (Some s) (Some t) h k = and_from _ _ h k

  -- both
  and_in : (o p : Option Tree) → is_in elements props o ≡ true → is_in elements props p ≡ true → is_in elements props (both trees.And o p) ≡ true
  and_in None p h k = refl
  and_in (Some s) None h k = refl
  and_in (Some s) (Some t) h k = and_from _ _ h k

  -- one of two
  or_in : (o p : Option Tree) → is_in elements props o ≡ true → is_in elements props p ≡ true → is_in elements props (both trees.Or o p) ≡ true
  or_in None p h k = refl
  or_in (Some s) None h k = refl
  or_in (Some s) (Some t) h k = and_from _ _ h k

  -- an implication
  implies_in : (o p : Option Tree) → is_in elements props o ≡ true → is_in elements props p ≡ true → is_in elements props (both (λ s t. trees.Or (trees.Not s) t) o p) ≡ true
  implies_in None p h k = refl
  implies_in (Some s) None h k = refl
  implies_in (Some s) (Some t) h k = and_from _ _ h k

-- a formula with known names
known_in : (n : Signature) → is_fit n ≡ true → (f : Written) → is_in (total (sizes_of n.parts)) (length n.props) (resolved n f) ≡ true
known_in n h True = lt-ltb _ _ (fit n h).top
known_in n h False = lt-ltb _ _ (fit n h).bottom
known_in n h (Name p) = atom_in (total (sizes_of n.parts)) n.props p (position (bytes_eq p) n.props) refl
known_in n h (Braces values) = const_in (length n.props) n.parts values (digits_named n.parts values) refl
known_in n h (Prefixed p f) = prefixed_in _ _ n.top p (resolved n f) (lt-ltb _ _ (fit n h).top) (known_in n h f)
known_in n h (Until q f g) = until_in _ _ q (resolved n f) (resolved n g) (known_in n h f) (known_in n h g)
known_in n h (written.And f g) = and_in _ _ (resolved n f) (resolved n g) (known_in n h f) (known_in n h g)
known_in n h (written.Or f g) = or_in _ _ (resolved n f) (resolved n g) (known_in n h f) (known_in n h g)
known_in n h (Implies f g) = implies_in _ _ (resolved n f) (resolved n g) (known_in n h f) (known_in n h g)

-- so its tree is in range
pub tree_in_range : (n : Signature) (f : Written) (t : Tree) → is_fit n ≡ true → resolved n f ≡ Some t → is_tree_in (total (sizes_of n.parts)) (length n.props) t ≡ true
tree_in_range n f t h e = subst (λ (o : Option Tree). is_in (total (sizes_of n.parts)) (length n.props) o ≡ true) e (known_in n h f)

-- the table of a tree
module _ (elements props : ℕ) where
  -- a table and a node
  one_more : (xs : List Kind) (node : Kind) → is_table_in elements props xs ≡ true → is_kind_in elements props node ≡ true → is_table_in elements props (xs ++ node ∷ []) ≡ true
  one_more xs node h k = list_all-append (is_kind_in elements props) xs (node ∷ []) ∙ and_from _ _ h (and_from _ _ k refl)

  -- two tables and a node
  both_more : (xs ys : List Kind) (node : Kind) → is_table_in elements props xs ≡ true → is_table_in elements props ys ≡ true → is_kind_in elements props node ≡ true → is_table_in elements props ((xs ++ ys) ++ node ∷ []) ≡ true
  both_more xs ys node h k m = one_more (xs ++ ys) node (list_all-append (is_kind_in elements props) xs ys ∙ and_from _ _ h k) m

  -- the nodes of a tree
  nodes_in : (k : ℕ) (t : Tree) → is_tree_in elements props t ≡ true → is_table_in elements props (nodes_from k t) ≡ true
  nodes_in k (trees.Const c) h = and_from _ _ h refl
  nodes_in k (trees.Atom p) h = and_from _ _ h refl
  nodes_in k (trees.Not t) h = one_more (nodes_from k t) _ (nodes_in k t h) refl
  nodes_in k (trees.And s t) h = let p = and_parts _ _ h in both_more (nodes_from k s) (nodes_from (k + size_of s) t) _ (nodes_in k s p.0) (nodes_in (k + size_of s) t p.1) refl
  nodes_in k (trees.Or s t) h = let p = and_parts _ _ h in both_more (nodes_from k s) (nodes_from (k + size_of s) t) _ (nodes_in k s p.0) (nodes_in (k + size_of s) t p.1) refl
  nodes_in k (trees.Ex t) h = one_more (nodes_from k t) _ (nodes_in k t h) refl
  nodes_in k (trees.Eu s t) h = let p = and_parts _ _ h in both_more (nodes_from k s) (nodes_from (k + size_of s) t) _ (nodes_in k s p.0) (nodes_in (k + size_of s) t p.1) refl
  nodes_in k (trees.Au s t) h = let p = and_parts _ _ h in both_more (nodes_from k s) (nodes_from (k + size_of s) t) _ (nodes_in k s p.0) (nodes_in (k + size_of s) t p.1) refl
  nodes_in k (trees.Eg t) h = one_more (nodes_from k t) _ (nodes_in k t h) refl

  -- where there is a tree
  table_range : (o : Option Tree) → is_in elements props o ≡ true → is_table_in elements props (table_in o) ≡ true
  table_range None h = refl
  table_range (Some t) h = nodes_in 0 t h

-- the tables of formulas
pub tables_in_range : (n : Signature) (formulas : List Written) → is_fit n ≡ true → list_all (is_table_in (total (sizes_of n.parts)) (length n.props)) (tables_of n formulas) ≡ true
tables_in_range n [] h = refl
tables_in_range n (f ∷ formulas) h = and_from _ _ (table_range _ _ (resolved n f) (known_in n h f)) (tables_in_range n formulas h)
