-- The table of a formula's nodes: each node of the tree for itself, children before parents.
use Rattle.std.specs.Prelude.{ℕ, suc, ◌+◌, ◌-◌, Bool, true, ◌&&◌, nat_lt, nat_le, List, [], ◌∷◌, ◌++◌, length}
use Rattle.std.specs.List.{list_all, slice_index_or}
use Rattle.xc_ctl.specs.Trees.{Tree}
use Rattle.xc_ctl.specs.Trees as trees
use Rattle.xc_ctl.specs.declared.kind.Kind.{Kind}
use Rattle.xc_ctl.specs.declared.kind.Kind.TheVariants.{Const, Atom, Not, And, Or, Ex, Eu, Au, Eg}

-- how many nodes a tree has
abbrev pub size_of : Tree → ℕ
size_of (trees.Const c) = 1
size_of (trees.Atom p) = 1
size_of (trees.Not t) = size_of t + 1
size_of (trees.And s t) = size_of s + size_of t + 1
size_of (trees.Or s t) = size_of s + size_of t + 1
size_of (trees.Ex t) = size_of t + 1
size_of (trees.Eu s t) = size_of s + size_of t + 1
size_of (trees.Au s t) = size_of s + size_of t + 1
size_of (trees.Eg t) = size_of t + 1

-- its nodes, numbered from k on: those of the left child, then those of the right one, then its own
abbrev pub nodes_from : ℕ → Tree → List Kind
nodes_from k (trees.Const c) = Const c ∷ []
nodes_from k (trees.Atom p) = Atom p ∷ []
nodes_from k (trees.Not t) = nodes_from k t ++ Not (k + size_of t - 1) ∷ []
nodes_from k (trees.And s t) = nodes_from k s ++ nodes_from (k + size_of s) t ++ And (k + size_of s - 1) (k + size_of s + size_of t - 1) ∷ []
nodes_from k (trees.Or s t) = nodes_from k s ++ nodes_from (k + size_of s) t ++ Or (k + size_of s - 1) (k + size_of s + size_of t - 1) ∷ []
nodes_from k (trees.Ex t) = nodes_from k t ++ Ex (k + size_of t - 1) ∷ []
nodes_from k (trees.Eu s t) = nodes_from k s ++ nodes_from (k + size_of s) t ++ Eu (k + size_of s - 1) (k + size_of s + size_of t - 1) ∷ []
nodes_from k (trees.Au s t) = nodes_from k s ++ nodes_from (k + size_of s) t ++ Au (k + size_of s - 1) (k + size_of s + size_of t - 1) ∷ []
nodes_from k (trees.Eg t) = nodes_from k t ++ Eg (k + size_of t - 1) ∷ []

abbrev pub nodes_of : Tree → List Kind
nodes_of tree = nodes_from 0 tree

-- the children of a node; where it has none, or only one, what is said of the other is not used
abbrev pub first_child : Kind → ℕ
first_child (Not i) = i
first_child (And i j) = i
first_child (Or i j) = i
first_child (Ex i) = i
first_child (Eu i j) = i
first_child (Au i j) = i
first_child (Eg i) = i
first_child _ = 0

abbrev pub second_child : Kind → ℕ
second_child (And i j) = j
second_child (Or i j) = j
second_child (Eu i j) = j
second_child (Au i j) = j
second_child _ = 0

-- the children of a node have numbers below k
abbrev pub has_children_below : ℕ → Kind → Bool
has_children_below k (Not i) = nat_lt i k
has_children_below k (And i j) = nat_lt i k && nat_lt j k
has_children_below k (Or i j) = nat_lt i k && nat_lt j k
has_children_below k (Ex i) = nat_lt i k
has_children_below k (Eu i j) = nat_lt i k && nat_lt j k
has_children_below k (Au i j) = nat_lt i k && nat_lt j k
has_children_below k (Eg i) = nat_lt i k
has_children_below _ _ = true

-- of nodes numbered from k on each has its children before it
abbrev pub are_ordered_from : ℕ → List Kind → Bool
are_ordered_from k [] = true
are_ordered_from k (node ∷ more) = has_children_below k node && are_ordered_from (suc k) more

-- a node at least and not more than 256, each behind its children
abbrev pub is_table : List Kind → Bool
is_table nodes = nat_le 1 (length nodes) && nat_le (length nodes) 256 && are_ordered_from 0 nodes

-- constants are below the number of elements, and propositions below that of propositions
abbrev pub is_kind_in : ℕ → ℕ → Kind → Bool
is_kind_in elements props (Const c) = nat_lt c elements
is_kind_in elements props (Atom p) = nat_lt p props
is_kind_in _ _ _ = true

abbrev pub is_table_in : ℕ → ℕ → List Kind → Bool
is_table_in elements props nodes = list_all (is_kind_in elements props) nodes

-- the node of a number
abbrev pub node_at : List Kind → ℕ → Kind
node_at nodes i = slice_index_or nodes i (Const 0)
