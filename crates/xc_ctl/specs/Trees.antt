-- Formulas written out: with propositions and elements in place of names, and without abbreviations.
use Rattle.std.specs.Prelude.{ℕ, Bool, ◌&&◌, not, nat_lt, nat_le, ◌==◌, List, [], ◌∷◌, length, map, Option, Some, None}
use Rattle.std.specs.List.{list_all, position}
use Rattle.std.specs.Option.{option_map}
use Rattle.std.specs.Str.{bytes_eq}
use Rattle.xc_theory.specs.Codes.{total, code_of}
use Rattle.xc_base.specs.Names.{has_twice}

-- what formulas are about: the names of the propositions, those of the elements of each part, and the codes of the bottom
-- and the top
pub record Signature : Type 0 where
  pub props : List (List ℕ)
  pub parts : List (List (List ℕ))
  pub bottom : ℕ
  pub top : ℕ

-- how many elements each part has
abbrev pub sizes_of : List (List (List ℕ)) → List ℕ
sizes_of parts = map (λ (names : List (List ℕ)). length names) parts

abbrev pub is_part : List (List ℕ) → Bool
is_part names = nat_le 2 (length names) && nat_le (length names) 64 && not (has_twice names)

-- Propositions have names of their own, and there are not more than 256. There is a part at least and eight at most, each of two
-- to 64 names of its own. Together they have 4,096 elements at most, of which bottom and top are two different ones.
abbrev pub is_fit : Signature → Bool
is_fit n =
    nat_le (length n.props) 256 && not (has_twice n.props)
    && nat_le 1 (length n.parts) && nat_le (length n.parts) 8 && list_all is_part n.parts && nat_le (total (sizes_of n.parts)) 4096
    && nat_lt n.bottom (total (sizes_of n.parts)) && nat_lt n.top (total (sizes_of n.parts)) && not (n.bottom == n.top)

pub data Tree : Type 0 where
  Const : ℕ → Tree
  Atom : ℕ → Tree
  Not : Tree → Tree
  And : Tree → Tree → Tree
  Or : Tree → Tree → Tree
  Ex : Tree → Tree
  Eu : Tree → Tree → Tree
  Au : Tree → Tree → Tree
  Eg : Tree → Tree

-- constants are below the number of elements, and propositions below that of propositions
abbrev pub is_tree_in : ℕ → ℕ → Tree → Bool
is_tree_in elements props (Const c) = nat_lt c elements
is_tree_in elements props (Atom p) = nat_lt p props
is_tree_in elements props (Not t) = is_tree_in elements props t
is_tree_in elements props (And s t) = is_tree_in elements props s && is_tree_in elements props t
is_tree_in elements props (Or s t) = is_tree_in elements props s && is_tree_in elements props t
is_tree_in elements props (Ex t) = is_tree_in elements props t
is_tree_in elements props (Eu s t) = is_tree_in elements props s && is_tree_in elements props t
is_tree_in elements props (Au s t) = is_tree_in elements props s && is_tree_in elements props t
is_tree_in elements props (Eg t) = is_tree_in elements props t

abbrev pub both : {X Y Z : Type 0} → (X → Y → Z) → Option X → Option Y → Option Z
both f (Some x) (Some y) = Some (f x y)
both _ _ _ = None

-- the elements of these names, one of each part
abbrev pub digits_named : List (List (List ℕ)) → List (List ℕ) → Option (List ℕ)
digits_named [] [] = Some []
digits_named (names ∷ parts) (v ∷ values) = both (λ digit row. digit ∷ row) (position (bytes_eq v) names) (digits_named parts values)
digits_named _ _ = None

abbrev pub element_named : List (List (List ℕ)) → List (List ℕ) → Option ℕ
element_named parts values = option_map (code_of (sizes_of parts)) (digits_named parts values)
