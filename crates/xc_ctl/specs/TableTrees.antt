-- The formula that a table of nodes stands for. Children stand before parents, so each node has the trees of its children before it.
use Rattle.std.specs.Prelude.{ℕ, ◌-◌, List, [], ◌∷◌, ◌++◌, length}
use Rattle.std.specs.List.{slice_index_or}
use Rattle.xc_ctl.specs.Trees.{Tree}
use Rattle.xc_ctl.specs.Trees as trees
use Rattle.xc_ctl.specs.declared.kind.Kind.{Kind}
use Rattle.xc_ctl.specs.declared.kind.Kind.TheVariants.{Const, Atom, Not, And, Or, Ex, Eu, Au, Eg}

-- the tree of a number; for a number past the trees what is said is not used
abbrev pub tree_at : List Tree → ℕ → Tree
tree_at known i = slice_index_or known i (trees.Const 0)

-- the tree of a node, by those of the nodes before it
abbrev pub tree_on : List Tree → Kind → Tree
tree_on known (Const c) = trees.Const c
tree_on known (Atom p) = trees.Atom p
tree_on known (Not i) = trees.Not (tree_at known i)
tree_on known (And i j) = trees.And (tree_at known i) (tree_at known j)
tree_on known (Or i j) = trees.Or (tree_at known i) (tree_at known j)
tree_on known (Ex i) = trees.Ex (tree_at known i)
tree_on known (Eu i j) = trees.Eu (tree_at known i) (tree_at known j)
tree_on known (Au i j) = trees.Au (tree_at known i) (tree_at known j)
tree_on known (Eg i) = trees.Eg (tree_at known i)

-- trees, and behind them those of further nodes
abbrev pub trees_on : List Tree → List Kind → List Tree
trees_on known [] = known
trees_on known (node ∷ more) = trees_on (known ++ tree_on known node ∷ []) more

-- the tree of each node of a table
unfoldable pub trees_of : List Kind → List Tree
trees_of nodes = trees_on [] nodes

-- the formula is the tree of the last node
abbrev pub formula_of : List Kind → Tree
formula_of nodes = tree_at (trees_of nodes) (length nodes - 1)
