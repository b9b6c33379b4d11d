-- The formula that a table stands for, node by node; the table of a tree stands for that tree.
use Rattle.std.proofs.Common.{◌≡◌, ℕ, zero, suc, ◌+◌, ◌-◌, ◌<◌, ◌≤◌, true, nat_lt, List, [], ◌∷◌, ◌++◌, length, length-append, take, drop, refl, sym, ◌∙◌, ap, subst, arith}
use Rattle.std.specs.List.{list_all}
use Rattle.std.proofs.Math.Seq.{get_or-append_seam}
use Rattle.std.proofs.lemmas.Bool.{and_parts, and_from, ltb-true, lt-ltb, leb-true}
use Rattle.std.proofs.lemmas.List.{get_or_append_left, length-take-le, take-append-drop}
use Rattle.std.proofs.lemmas.List.Folds.{list_all-append}
use Rattle.xc_theory.specs.Codes.{total}
use Rattle.xc_ctl.specs.Trees.{Signature, Tree, is_fit, sizes_of}
use Rattle.xc_ctl.specs.Trees as trees
use Rattle.xc_ctl.specs.Tables.{size_of, nodes_from, nodes_of, has_children_below, are_ordered_from, is_table, is_kind_in, is_table_in, node_at}
use Rattle.xc_ctl.specs.TableTrees.{tree_at, tree_on, trees_on, trees_of, formula_of}
use Rattle.xc_ctl.specs.Trees.{is_tree_in}
use Rattle.xc_ctl.specs.declared.kind.Kind.{Kind}
use Rattle.xc_ctl.specs.declared.kind.Kind.TheVariants.{Const, Atom, Not, And, Or, Ex, Eu, Au, Eg}
use Rattle.xc_ctl.proofs.ElementCodes.{fit}
use Rattle.xc_ctl.proofs.Nodes.{size_some, nodes_length}

-- a tree behind others, and those before it
behind_at : (known : List Tree) (t : Tree) → tree_at (known ++ t ∷ []) (length known) ≡ t
behind_at known t = get_or-append_seam known t [] (trees.Const 0)

before_at : (known : List Tree) (t : Tree) (i : ℕ) → i < length known → tree_at (known ++ t ∷ []) i ≡ tree_at known i
before_at known t i h = get_or_append_left known (t ∷ []) (trees.Const 0) i h

one_longer : (known : List Tree) (t : Tree) → length (known ++ t ∷ []) ≡ suc (length known)
one_longer known t = omega (arith, length-append known (t ∷ []))

-- each node has a tree
trees_count : (known : List Tree) (nodes : List Kind) → length (trees_on known nodes) ≡ length known + length nodes
trees_count known [] = omega arith
trees_count known (node ∷ more) = omega (arith, trees_count (known ++ tree_on known node ∷ []) more, one_longer known (tree_on known node))

-- the trees before stay
kept : (known : List Tree) (nodes : List Kind) (i : ℕ) → i < length known → tree_at (trees_on known nodes) i ≡ tree_at known i
kept known [] i h = refl
kept known (node ∷ more) i h =
    kept (known ++ tree_on known node ∷ []) more i (omega (arith, one_longer known (tree_on known node))) ∙ before_at known (tree_on known node) i h

-- so a node with its children among them has the same tree
same_on : (known : List Tree) (nodes : List Kind) (node : Kind) → has_children_below (length known) node ≡ true → tree_on (trees_on known nodes) node ≡ tree_on known node
same_on known nodes (Const c) h = refl
same_on known nodes (Atom p) h = refl
same_on known nodes (Not i) h = ap trees.Not (kept known nodes i (ltb-true i (length known) h))
same_on known nodes (And i j) h =
    let p = and_parts (nat_lt i (length known)) (nat_lt j (length known)) h in
    cc (kept known nodes i (ltb-true i (length known) p.0), kept known nodes j (ltb-true j (length known) p.1))
same_on known nodes (Or i j) h =
    let p = and_parts (nat_lt i (length known)) (nat_lt j (length known)) h in
    cc (kept known nodes i (ltb-true i (length known) p.0), kept known nodes j (ltb-true j (length known) p.1))
same_on known nodes (Ex i) h = ap trees.Ex (kept known nodes i (ltb-true i (length known) h))
same_on known nodes (Eu i j) h =
    let p = and_parts (nat_lt i (length known)) (nat_lt j (length known)) h in
    cc (kept known nodes i (ltb-true i (length known) p.0), kept known nodes j (ltb-true j (length known) p.1))
same_on known nodes (Au i j) h =
    let p = and_parts (nat_lt i (length known)) (nat_lt j (length known)) h in
    cc (kept known nodes i (ltb-true i (length known) p.0), kept known nodes j (ltb-true j (length known) p.1))
same_on known nodes (Eg i) h = ap trees.Eg (kept known nodes i (ltb-true i (length known) h))

-- the tree of a node behind others
node_on : (known : List Tree) (nodes : List Kind) (k : ℕ) → are_ordered_from (length known) nodes ≡ true → k < length nodes
    → tree_at (trees_on known nodes) (length known + k) ≡ tree_on (trees_on known nodes) (node_at nodes k)
node_on known [] k h low = absurd (omega arith)
node_on known (node ∷ more) zero h low =
    let p = and_parts (has_children_below (length known) node) (are_ordered_from (suc (length known)) more) h in
    let place : length known + zero ≡ length known = omega arith in
    ap (tree_at (trees_on known (node ∷ more))) place
    ∙ (kept (known ++ tree_on known node ∷ []) more (length known) (omega (arith, one_longer known (tree_on known node)))
    ∙ (behind_at known (tree_on known node) ∙ sym (same_on known (node ∷ more) node p.0)))
node_on known (node ∷ more) (suc k) h low =
    let p = and_parts (has_children_below (length known) node) (are_ordered_from (suc (length known)) more) h in
    let longer = one_longer known (tree_on known node) in
    let place : length known + suc k ≡ length (known ++ tree_on known node ∷ []) + k = omega (arith, longer) in
    ap (tree_at (trees_on known (node ∷ more))) place
    ∙ node_on (known ++ tree_on known node ∷ []) more k (subst (λ (n : ℕ). are_ordered_from n more ≡ true) (sym longer) p.1) (omega arith)

-- what a table is
pub ordered : (nodes : List Kind) → is_table nodes ≡ true → are_ordered_from 0 nodes ≡ true
ordered nodes h = (and_parts _ (are_ordered_from 0 nodes) h).1

pub table_some : (nodes : List Kind) → is_table nodes ≡ true → 1 ≤ length nodes
table_some nodes h = leb-true 1 (length nodes) (and_parts _ _ (and_parts _ (are_ordered_from 0 nodes) h).0).0

-- the nodes before one are ordered
front_from : (k : ℕ) (nodes : List Kind) (i : ℕ) → are_ordered_from k nodes ≡ true → are_ordered_from k (take i nodes) ≡ true
front_from k [] zero h = refl
front_from k [] (suc i) h = refl
front_from k (node ∷ more) zero h = refl
front_from k (node ∷ more) (suc i) h =
    let p = and_parts (has_children_below k node) (are_ordered_from (suc k) more) h in
    and_from _ _ p.0 (front_from (suc k) more i p.1)

pub front_ordered : (nodes : List Kind) (i : ℕ) → are_ordered_from 0 nodes ≡ true → are_ordered_from 0 (take i nodes) ≡ true
front_ordered nodes i h = front_from 0 nodes i h

-- and its children are among them
child_from : (k : ℕ) (nodes : List Kind) (i : ℕ) → are_ordered_from k nodes ≡ true → i < length nodes → has_children_below (k + i) (node_at nodes i) ≡ true
child_from k [] i h low = absurd (omega arith)
child_from k (node ∷ more) zero h low =
    let place : k + zero ≡ k = omega arith in
    subst (λ (n : ℕ). has_children_below n node ≡ true) (sym place) (and_parts _ _ h).0
child_from k (node ∷ more) (suc i) h low =
    let place : k + suc i ≡ suc k + i = omega arith in
    subst (λ (n : ℕ). has_children_below n (node_at more i) ≡ true) (sym place) (child_from (suc k) more i (and_parts (has_children_below k node) _ h).1 (omega arith))

front_count : (nodes : List Kind) (i : ℕ) → i < length nodes → length (take i nodes) ≡ 0 + i
front_count nodes i low = let few : i ≤ length nodes = omega arith in omega (arith, length-take-le i nodes few)

pub front_children : (nodes : List Kind) (i : ℕ) → are_ordered_from 0 nodes ≡ true → i < length nodes → has_children_below (length (take i nodes)) (node_at nodes i) ≡ true
front_children nodes i h low = subst (λ (n : ℕ). has_children_below n (node_at nodes i) ≡ true) (sym (front_count nodes i low)) (child_from 0 nodes i h low)

-- nodes behind others
on_append : (known : List Tree) (xs ys : List Kind) → trees_on known (xs ++ ys) ≡ trees_on (trees_on known xs) ys
on_append known [] ys = refl
on_append known (x ∷ xs) ys = on_append (known ++ tree_on known x ∷ []) xs ys

-- by those it has its tree
pub front_tree : (nodes : List Kind) (i : ℕ) → are_ordered_from 0 nodes ≡ true → i < length nodes → tree_on (trees_of (take i nodes)) (node_at nodes i) ≡ tree_at (trees_of nodes) i
unfolding trees_of
front_tree nodes i h low =
    let front : List Tree = trees_on [] (take i nodes) in
    let count : length front ≡ length (take i nodes) = omega (arith, trees_count [] (take i nodes)) in
    let children : has_children_below (length front) (node_at nodes i) ≡ true = subst (λ (n : ℕ). has_children_below n (node_at nodes i) ≡ true) (sym count) (front_children nodes i h low) in
    let all : trees_on [] nodes ≡ trees_on front (drop i nodes) = ap (trees_on []) (sym (take-append-drop i nodes)) ∙ on_append [] (take i nodes) (drop i nodes) in
    let place : 0 + i ≡ i = omega arith in
    let here : tree_at (trees_on [] nodes) i ≡ tree_on (trees_on [] nodes) (node_at nodes i) = subst (λ (n : ℕ). tree_at (trees_on [] nodes) n ≡ tree_on (trees_on [] nodes) (node_at nodes i)) place (node_on [] nodes i h low) in
    sym (here ∙ (ap (λ (ts : List Tree). tree_on ts (node_at nodes i)) all ∙ same_on front (drop i nodes) (node_at nodes i) children))

-- the last node has that of the formula
pub last_tree : (nodes items : List Kind) (node : Kind) → is_table nodes ≡ true → items ≡ nodes → node ≡ node_at items (length items - 1) → tree_on (trees_of (take (length items - 1) items)) node ≡ formula_of nodes
last_tree nodes items node h same e =
    let low : length nodes - 1 < length nodes = omega (arith, table_some nodes h) in
    rw (e, same) (front_tree nodes (length nodes - 1) (ordered nodes h) low)

module _ (elements props : ℕ) (some : 0 < elements) where
  -- a tree among trees in range
  in_at : (known : List Tree) (i : ℕ) → list_all (is_tree_in elements props) known ≡ true → is_tree_in elements props (tree_at known i) ≡ true
  in_at [] i h = lt-ltb 0 elements some
  in_at (t ∷ known) zero h = (and_parts _ _ h).0
  in_at (t ∷ known) (suc i) h = in_at known i (and_parts (is_tree_in elements props t) _ h).1

  -- the tree of a node in range
  in_on : (known : List Tree) (node : Kind) → list_all (is_tree_in elements props) known ≡ true → is_kind_in elements props node ≡ true → is_tree_in elements props (tree_on known node) ≡ true
  in_on known (Const c) h k = k
  in_on known (Atom p) h k = k
  in_on known (Not i) h k = in_at known i h
  in_on known (And i j) h k = and_from _ _ (in_at known i h) (in_at known j h)
  in_on known (Or i j) h k = and_from _ _ (in_at known i h) (in_at known j h)
  in_on known (Ex i) h k = in_at known i h
  in_on known (Eu i j) h k = and_from _ _ (in_at known i h) (in_at known j h)
  in_on known (Au i j) h k = and_from _ _ (in_at known i h) (in_at known j h)
  in_on known (Eg i) h k = in_at known i h

  -- the trees of nodes in range
  all_in : (known : List Tree) (nodes : List Kind) → list_all (is_tree_in elements props) known ≡ true → is_table_in elements props nodes ≡ true → list_all (is_tree_in elements props) (trees_on known nodes) ≡ true
  all_in known [] h k = h
  all_in known (node ∷ more) h k =
      let p = and_parts (is_kind_in elements props node) (is_table_in elements props more) k in
      all_in (known ++ tree_on known node ∷ []) more (list_all-append (is_tree_in elements props) known (tree_on known node ∷ []) ∙ and_from _ _ h (and_from _ _ (in_on known node h p.0) refl)) p.1

-- a table in range stands for a formula in range
pub formula_in_range : (n : Signature) (nodes : List Kind) → is_fit n ≡ true → is_table_in (total (sizes_of n.parts)) (length n.props) nodes ≡ true
    → is_tree_in (total (sizes_of n.parts)) (length n.props) (formula_of nodes) ≡ true
unfolding trees_of
formula_in_range n nodes h k =
    let f = fit n h in
    let some : 0 < total (sizes_of n.parts) = omega (arith, f.top) in
    in_at _ _ some (trees_of nodes) (length nodes - 1) (all_in _ _ some [] nodes refl k)

-- a parent behind the nodes below it
parent_at : (known : List Tree) (xs : List Kind) (node : Kind) (i : ℕ) → i ≡ length known + length xs → tree_at (trees_on known (xs ++ node ∷ [])) i ≡ tree_on (trees_on known xs) node
parent_at known xs node i e =
    let all : List Tree = trees_on known xs in
    let place : i ≡ length all = e ∙ sym (trees_count known xs) in
    ap (λ (ts : List Tree). tree_at ts i) (on_append known xs (node ∷ [])) ∙ (ap (tree_at (all ++ tree_on all node ∷ [])) place ∙ behind_at all (tree_on all node))

-- of one child
one_child : (make : Tree → Tree) (known : List Tree) (t : Tree) (k : ℕ) (node : Kind) → length known ≡ k
    → tree_on (trees_on known (nodes_from k t)) node ≡ make (tree_at (trees_on known (nodes_from k t)) (k + size_of t - 1))
    → tree_at (trees_on known (nodes_from k t)) (k + size_of t - 1) ≡ t → tree_at (trees_on known (nodes_from k t ++ node ∷ [])) (k + (size_of t + 1) - 1) ≡ make t
one_child make known t k node e on child =
    let place : k + (size_of t + 1) - 1 ≡ length known + length (nodes_from k t) = omega (arith, nodes_length k t) in
    parent_at known (nodes_from k t) node (k + (size_of t + 1) - 1) place ∙ (on ∙ ap make child)

-- of two
two_children : (make : Tree → Tree → Tree) (known : List Tree) (s t : Tree) (k : ℕ) (node : Kind) → length known ≡ k
    → ((ts : List Tree) → tree_on ts node ≡ make (tree_at ts (k + size_of s - 1)) (tree_at ts (k + size_of s + size_of t - 1)))
    → tree_at (trees_on known (nodes_from k s)) (k + size_of s - 1) ≡ s
    → ((before : List Tree) → length before ≡ k + size_of s → tree_at (trees_on before (nodes_from (k + size_of s) t)) (k + size_of s + size_of t - 1) ≡ t)
    → tree_at (trees_on known ((nodes_from k s ++ nodes_from (k + size_of s) t) ++ node ∷ [])) (k + (size_of s + size_of t + 1) - 1) ≡ make s t
two_children make known s t k node e on first second =
    let xs : List Kind = nodes_from k s in
    let ys : List Kind = nodes_from (k + size_of s) t in
    let left : List Tree = trees_on known xs in
    let some = size_some s in
    let count : length left ≡ k + size_of s = omega (arith, trees_count known xs, nodes_length k s) in
    let both : trees_on known (xs ++ ys) ≡ trees_on left ys = on_append known xs ys in
    let stays : tree_at (trees_on left ys) (k + size_of s - 1) ≡ s = kept left ys (k + size_of s - 1) (omega arith) ∙ first in
    let place : k + (size_of s + size_of t + 1) - 1 ≡ length known + length (xs ++ ys) = omega (arith, length-append xs ys, nodes_length k s, nodes_length (k + size_of s) t) in
    parent_at known (xs ++ ys) node (k + (size_of s + size_of t + 1) - 1) place
    ∙ (on (trees_on known (xs ++ ys)) ∙ rw both (cc (stays, second left count)))

-- the nodes of a tree stand for it
last_on : (known : List Tree) (t : Tree) (k : ℕ) → length known ≡ k → tree_at (trees_on known (nodes_from k t)) (k + size_of t - 1) ≡ t
last_on known (trees.Const c) k e = let place : k + 1 - 1 ≡ length known = omega arith in ap (tree_at (known ++ trees.Const c ∷ [])) place ∙ behind_at known (trees.Const c)
last_on known (trees.Atom p) k e = let place : k + 1 - 1 ≡ length known = omega arith in ap (tree_at (known ++ trees.Atom p ∷ [])) place ∙ behind_at known (trees.Atom p)
last_on known (trees.Not t) k e = one_child trees.Not known t k (Not (k + size_of t - 1)) e refl (last_on known t k e)
last_on known (trees.And s t) k e =
    two_children trees.And known s t k (And (k + size_of s - 1) (k + size_of s + size_of t - 1)) e (λ ts. refl) (last_on known s k e) (λ before f. last_on before t (k + size_of s) f)
last_on known (trees.Or s t) k e =
    two_children trees.Or known s t k (Or (k + size_of s - 1) (k + size_of s + size_of t - 1)) e (λ ts. refl) (last_on known s k e) (λ before f. last_on before t (k + size_of s) f)
last_on known (trees.Ex t) k e = one_child trees.Ex known t k (Ex (k + size_of t - 1)) e refl (last_on known t k e)
last_on known (trees.Eu s t) k e =
    two_children trees.Eu known s t k (Eu (k + size_of s - 1) (k + size_of s + size_of t - 1)) e (λ ts. refl) (last_on known s k e) (λ before f. last_on before t (k + size_of s) f)
last_on known (trees.Au s t) k e =
    two_children trees.Au known s t k (Au (k + size_of s - 1) (k + size_of s + size_of t - 1)) e (λ ts. refl) (last_on known s k e) (λ before f. last_on before t (k + size_of s) f)
last_on known (trees.Eg t) k e = one_child trees.Eg known t k (Eg (k + size_of t - 1)) e refl (last_on known t k e)

-- the table of a tree stands for it
pub table_of_tree : (t : Tree) → formula_of (nodes_of t) ≡ t
unfolding trees_of
table_of_tree t =
    let place : length (nodes_of t) - 1 ≡ 0 + size_of t - 1 = omega (arith, nodes_length 0 t) in
    ap (tree_at (trees_on [] (nodes_of t))) place ∙ last_on [] t 0 refl
