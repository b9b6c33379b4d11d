-- What the formulas, the trees and the vocabularies of the code are.
use Rattle.std.specs.Prelude.{List, map}
use Rattle.xc_ctl.specs.Trees.{Signature, Tree, Const, Atom, Not, And, Or, Ex, Eu, Au, Eg}
use Rattle.xc_ctl.specs.declared.kind.Kind.{Kind}
use Rattle.xc_ctl.specs.declared.formula.Formula.{Formula}
use Rattle.xc_ctl.specs.declared.formula.Formulas.{Formulas}
use Rattle.xc_ctl.specs.declared.vocabulary.Vocabulary.{Vocabulary}
use Rattle.xc_ctl.specs.declared.tree.Tree.{Tree as Boxed}
use Rattle.xc_ctl.specs.declared.tree.Tree.TheVariants as boxed

-- the nodes of each formula
abbrev pub nodes_in : Formulas → List (List Kind)
nodes_in formulas = map (λ (f : Formula). f.nodes) formulas.items

-- the signature that a vocabulary of the code is
abbrev pub signature : Vocabulary → Signature
signature v = record { props = v.props.now; parts = v.parts.now; bottom = v.bottom; top = v.top }

-- the tree that one of the code is
abbrev pub tree_of : Boxed → Tree
tree_of (boxed.Const c) = Const c
tree_of (boxed.Atom p) = Atom p
tree_of (boxed.Not' p t) = Not (tree_of t)
tree_of (boxed.And' p s q t) = And (tree_of s) (tree_of t)
tree_of (boxed.Or' p s q t) = Or (tree_of s) (tree_of t)
tree_of (boxed.Ex' p t) = Ex (tree_of t)
tree_of (boxed.Eu' p s q t) = Eu (tree_of s) (tree_of t)
tree_of (boxed.Au' p s q t) = Au (tree_of s) (tree_of t)
tree_of (boxed.Eg' p t) = Eg (tree_of t)
