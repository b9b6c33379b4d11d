-- The nodes of a tree are a table, where there are few enough.
use Rattle.std.proofs.Common.{◌≡◌, ℕ, suc, ◌+◌, ◌-◌, ◌≤◌, true, List, [], ◌∷◌, ◌++◌, length, length-append, refl, sym, ◌∙◌, ap, subst, arith}
use Rattle.std.proofs.lemmas.Bool.{and_from, and_parts, lt-ltb, le-leb}
use Rattle.xc_ctl.specs.Trees.{Tree}
use Rattle.xc_ctl.specs.Trees as trees
use Rattle.xc_ctl.specs.Tables.{size_of, nodes_from, nodes_of, has_children_below, are_ordered_from, is_table}
use Rattle.xc_ctl.specs.declared.kind.Kind.{Kind}
use Rattle.xc_ctl.proofs.Nodes.{size_some, nodes_length}

-- nodes behind others
ordered_append : (k : ℕ) (xs ys : List Kind) → are_ordered_from k xs ≡ true → are_ordered_from (k + length xs) ys ≡ true → are_ordered_from k (xs ++ ys) ≡ true
ordered_append k [] ys h e = let same : k + 0 ≡ k = omega arith in subst (λ (m : ℕ). are_ordered_from m ys ≡ true) same e
ordered_append k (x ∷ xs) ys h e =
    let p = and_parts (has_children_below k x) (are_ordered_from (suc k) xs) h in
    let same : k + suc (length xs) ≡ suc k + length xs = omega arith in
    and_from _ _ p.0 (ordered_append (suc k) xs ys p.1 (subst (λ (m : ℕ). are_ordered_from m ys ≡ true) same e))

-- a parent behind its children
one_ordered : (k m : ℕ) (xs : List Kind) (node : Kind) → are_ordered_from k xs ≡ true → length xs ≡ m → has_children_below (k + m) node ≡ true → are_ordered_from k (xs ++ node ∷ []) ≡ true
one_ordered k m xs node h e c = ordered_append k xs (node ∷ []) h (and_from _ _ (subst (λ (j : ℕ). has_children_below (k + j) node ≡ true) (sym e) c) refl)

-- a parent behind two children
both_ordered : (k m j : ℕ) (xs ys : List Kind) (node : Kind) → are_ordered_from k xs ≡ true → length xs ≡ m → are_ordered_from (k + m) ys ≡ true → length ys ≡ j → has_children_below (k + m + j) node ≡ true → are_ordered_from k ((xs ++ ys) ++ node ∷ []) ≡ true
both_ordered k m j xs ys node h e i f c =
    let both = ordered_append k xs ys h (subst (λ (p : ℕ). are_ordered_from (k + p) ys ≡ true) (sym e) i) in
    let count : length (xs ++ ys) ≡ m + j = length-append xs ys ∙ ap (λ (p : ℕ). p + length ys) e ∙ ap (λ (p : ℕ). m + p) f in
    let place : k + m + j ≡ k + (m + j) = omega arith in
    one_ordered k (m + j) (xs ++ ys) node both count (subst (λ (p : ℕ). has_children_below p node ≡ true) place c)

-- children stand before their parents
nodes_ordered : (k : ℕ) (t : Tree) → are_ordered_from k (nodes_from k t) ≡ true
nodes_ordered k (trees.Const c) = refl
nodes_ordered k (trees.Atom p) = refl
nodes_ordered k (trees.Not t) = one_ordered k (size_of t) (nodes_from k t) _ (nodes_ordered k t) (nodes_length k t) (let some = size_some t in lt-ltb (k + size_of t - 1) (k + size_of t) (omega arith))
nodes_ordered k (trees.And s t) =
    let a = size_some s in
    let b = size_some t in
    both_ordered k (size_of s) (size_of t) (nodes_from k s) (nodes_from (k + size_of s) t) _ (nodes_ordered k s) (nodes_length k s) (nodes_ordered (k + size_of s) t) (nodes_length (k + size_of s) t)
    (and_from _ _ (lt-ltb (k + size_of s - 1) (k + size_of s + size_of t) (omega arith)) (lt-ltb (k + size_of s + size_of t - 1) (k + size_of s + size_of t) (omega arith)))
nodes_ordered k (trees.Or s t) =
    let a = size_some s in
    let b = size_some t in
    both_ordered k (size_of s) (size_of t) (nodes_from k s) (nodes_from (k + size_of s) t) _ (nodes_ordered k s) (nodes_length k s) (nodes_ordered (k + size_of s) t) (nodes_length (k + size_of s) t)
    (and_from _ _ (lt-ltb (k + size_of s - 1) (k + size_of s + size_of t) (omega arith)) (lt-ltb (k + size_of s + size_of t - 1) (k + size_of s + size_of t) (omega arith)))
nodes_ordered k (trees.Ex t) = one_ordered k (size_of t) (nodes_from k t) _ (nodes_ordered k t) (nodes_length k t) (let some = size_some t in lt-ltb (k + size_of t - 1) (k + size_of t) (omega arith))
nodes_ordered k (trees.Eu s t) =
    let a = size_some s in
    let b = size_some t in
    both_ordered k (size_of s) (size_of t) (nodes_from k s) (nodes_from (k + size_of s) t) _ (nodes_ordered k s) (nodes_length k s) (nodes_ordered (k + size_of s) t) (nodes_length (k + size_of s) t)
    (and_from _ _ (lt-ltb (k + size_of s - 1) (k + size_of s + size_of t) (omega arith)) (lt-ltb (k + size_of s + size_of t - 1) (k + size_of s + size_of t) (omega arith)))
nodes_ordered k (trees.Au s t) =
    let a = size_some s in
    let b = size_some t in
    both_ordered k (size_of s) (size_of t) (nodes_from k s) (nodes_from (k + size_of s) t) _ (nodes_ordered k s) (nodes_length k s) (nodes_ordered (k + size_of s) t) (nodes_length (k + size_of s) t)
    (and_from _ _ (lt-ltb (k + size_of s - 1) (k + size_of s + size_of t) (omega arith)) (lt-ltb (k + size_of s + size_of t - 1) (k + size_of s + size_of t) (omega arith)))
nodes_ordered k (trees.Eg t) = one_ordered k (size_of t) (nodes_from k t) _ (nodes_ordered k t) (nodes_length k t) (let some = size_some t in lt-ltb (k + size_of t - 1) (k + size_of t) (omega arith))

-- with at most 256 nodes it is a table
pub tree_is_table : (t : Tree) → size_of t ≤ 256 → is_table (nodes_of t) ≡ true
tree_is_table t few =
    let some = size_some t in
    let count = nodes_length 0 t in
    and_from _ _ (and_from _ _ (le-leb 1 (length (nodes_of t)) (omega arith)) (le-leb (length (nodes_of t)) 256 (omega arith))) (nodes_ordered 0 t)
