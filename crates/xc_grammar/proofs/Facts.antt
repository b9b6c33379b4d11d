-- Expressions at small cases whose trees are known from outside: a wrong definition does not check here.
use Rattle.std.proofs.Common.{◌≡◌, ℕ, zero, suc, true, if◌then◌else◌, List, [], ◌∷◌, Option, Some, None, codes, refl}
use Rattle.std.specs.Str.{bytes_eq}
use Rattle.xc_base.specs.Operators.{Front, chained, chain, chain_up_to}
use Rattle.xc_grammar.specs.Grammars.{Grammar}
use Rattle.xc_grammar.specs.Reading.{level_by, whole_by, pair_of, basic, whole_at, tree_in}
use Rattle.xc_grammar.specs.Righted.{righted, righted_up_to}

-- trees over one atom, with two operators and an arrow, numbered from the one that binds most
pub data Tree : Type 0 where
  Leaf : Tree
  Not : Tree → Tree
  Until : Tree → Tree → Tree
  Join : ℕ → Tree → Tree → Tree

abbrev pub mark_of : ℕ → List ℕ
mark_of zero = codes "&"
mark_of (suc zero) = codes "|"
mark_of (suc (suc n)) = codes "->"

abbrev pub small : Grammar Tree
small = record {
  IsAtom = λ tokens t. (tokens ≡ codes "a" ∷ []) × (t ≡ Leaf);
  is_prefix = λ token. bytes_eq token (codes "!");
  apply = λ token t. Not t;
  is_pair = λ token. bytes_eq token (codes "E");
  pair = λ token t u. Until t u;
  count = 2;
  mark = mark_of;
  join = Join;
  arrow = true;
}

abbrev pub leaf_in : List (List ℕ) → Option (Front Tree)
leaf_in [] = None
leaf_in (token ∷ rest) = if bytes_eq token (codes "a") then Some (record { tree = Leaf; rest = rest }) else None

abbrev pub a : List ℕ
a = codes "a"

-- `a&a&a` and `a|a|a` group to the left, `a->a->a` to the right, and `&` binds more than `|`
pub grouped : (tree_in small leaf_in 1 (a ∷ codes "&" ∷ a ∷ codes "&" ∷ a ∷ []) ≡ Some (Join 0 (Join 0 Leaf Leaf) Leaf))
    × (tree_in small leaf_in 1 (a ∷ codes "|" ∷ a ∷ codes "|" ∷ a ∷ []) ≡ Some (Join 1 (Join 1 Leaf Leaf) Leaf))
    × (tree_in small leaf_in 1 (a ∷ codes "->" ∷ a ∷ codes "->" ∷ a ∷ []) ≡ Some (Join 2 Leaf (Join 2 Leaf Leaf)))
    × (tree_in small leaf_in 1 (a ∷ codes "|" ∷ a ∷ codes "&" ∷ a ∷ []) ≡ Some (Join 1 Leaf (Join 0 Leaf Leaf)))
unfolding tree_in whole_at whole_by level_by basic pair_of righted righted_up_to chained chain chain_up_to
grouped = (refl, refl, refl, refl)

-- `!a&a` negates the first alone, `!(a&a)` both, and `E[a U a]` is a pair
pub nested_ones : (tree_in small leaf_in 2 (codes "!" ∷ a ∷ codes "&" ∷ a ∷ []) ≡ Some (Join 0 (Not Leaf) Leaf))
    × (tree_in small leaf_in 2 (codes "!" ∷ codes "(" ∷ a ∷ codes "&" ∷ a ∷ codes ")" ∷ []) ≡ Some (Not (Join 0 Leaf Leaf)))
    × (tree_in small leaf_in 2 (codes "E" ∷ codes "[" ∷ a ∷ codes "U" ∷ a ∷ codes "]" ∷ []) ≡ Some (Until Leaf Leaf))
unfolding tree_in whole_at whole_by level_by basic pair_of righted righted_up_to chained chain chain_up_to
nested_ones = (refl, refl, refl)

-- no tree: nothing, an operator with nothing behind it, a bracket left open, two atoms, and more around each other than may be
pub no_trees : (tree_in small leaf_in 2 [] ≡ None) × (tree_in small leaf_in 2 (a ∷ codes "&" ∷ []) ≡ None) × (tree_in small leaf_in 2 (codes "(" ∷ a ∷ []) ≡ None)
    × (tree_in small leaf_in 2 (a ∷ a ∷ []) ≡ None) × (tree_in small leaf_in 1 (codes "!" ∷ codes "!" ∷ a ∷ []) ≡ None)
unfolding tree_in whole_at whole_by level_by basic pair_of righted righted_up_to chained chain chain_up_to
no_trees = (refl, refl, refl, refl, refl)
