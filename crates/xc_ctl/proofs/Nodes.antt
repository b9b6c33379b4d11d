-- The table of a tree.
use Rattle.std.proofs.Common.{◌≡◌, ℕ, ◌+◌, ◌-◌, ◌≤◌, List, [], ◌∷◌, ◌++◌, length, length-append, append_assoc, refl, ◌∙◌, ap, arith}
use Rattle.xc_ctl.specs.Trees.{Tree}
use Rattle.xc_ctl.specs.Trees as trees
use Rattle.xc_ctl.specs.Tables.{size_of, nodes_from}
use Rattle.xc_ctl.specs.declared.kind.Kind.{Kind}
use Rattle.xc_ctl.specs.declared.kind.Kind.TheVariants.{Not, And, Or, Ex, Eu, Au, Eg}

-- a tree has a node
pub size_some : (t : Tree) → 1 ≤ size_of t
size_some (trees.Const c) = omega arith
size_some (trees.Atom p) = omega arith
size_some (trees.Not t) = omega arith
size_some (trees.And s t) = omega arith
size_some (trees.Or s t) = omega arith
size_some (trees.Ex t) = omega arith
size_some (trees.Eu s t) = omega arith
size_some (trees.Au s t) = omega arith
size_some (trees.Eg t) = omega arith

-- nodes with one more behind them
one_length : (xs : List Kind) (node : Kind) (n : ℕ) → length xs ≡ n → length (xs ++ node ∷ []) ≡ n + 1
one_length xs node n e = omega (arith, length-append xs (node ∷ []))

-- nodes of two kinds with one more behind them
two_length : (xs ys : List Kind) (node : Kind) (n m : ℕ) → length xs ≡ n → length ys ≡ m → length ((xs ++ ys) ++ node ∷ []) ≡ n + m + 1
two_length xs ys node n m e f = omega (arith, length-append (xs ++ ys) (node ∷ []), length-append xs ys)

-- its table has as many nodes
pub nodes_length : (k : ℕ) (t : Tree) → length (nodes_from k t) ≡ size_of t
nodes_length k (trees.Const c) = refl
nodes_length k (trees.Atom p) = refl
nodes_length k (trees.Not t) = one_length (nodes_from k t) _ (size_of t) (nodes_length k t)
nodes_length k (trees.And s t) = two_length (nodes_from k s) (nodes_from (k + size_of s) t) _ (size_of s) (size_of t) (nodes_length k s) (nodes_length (k + size_of s) t)
nodes_length k (trees.Or s t) = two_length (nodes_from k s) (nodes_from (k + size_of s) t) _ (size_of s) (size_of t) (nodes_length k s) (nodes_length (k + size_of s) t)
nodes_length k (trees.Ex t) = one_length (nodes_from k t) _ (size_of t) (nodes_length k t)
nodes_length k (trees.Eu s t) = two_length (nodes_from k s) (nodes_from (k + size_of s) t) _ (size_of s) (size_of t) (nodes_length k s) (nodes_length (k + size_of s) t)
nodes_length k (trees.Au s t) = two_length (nodes_from k s) (nodes_from (k + size_of s) t) _ (size_of s) (size_of t) (nodes_length k s) (nodes_length (k + size_of s) t)
nodes_length k (trees.Eg t) = one_length (nodes_from k t) _ (size_of t) (nodes_length k t)

-- what is known of the nodes of a tree behind others
pub behind_length : (old : List Kind) (k : ℕ) (t : Tree) → length (old ++ nodes_from k t) ≡ length old + size_of t
behind_length old k t = length-append old (nodes_from k t) ∙ ap (λ (n : ℕ). length old + n) (nodes_length k t)

-- the parent of one child stands behind it
module _ (node : ℕ → Kind) where
  -- whatever the parent is
  pushed_one : (old : List Kind) (t : Tree) (child : ℕ) → child ≡ length (old ++ nodes_from (length old) t) - 1
      → (old ++ nodes_from (length old) t) ++ node child ∷ [] ≡ old ++ (nodes_from (length old) t ++ node (length old + size_of t - 1) ∷ [])
  pushed_one old t child e = append_assoc old (nodes_from (length old) t) (node child ∷ []) ∙ ap (λ (c : ℕ). old ++ (nodes_from (length old) t ++ node c ∷ [])) (e ∙ ap (λ (n : ℕ). n - 1) (behind_length old (length old) t))

-- a negation
pub pushed_not : (old : List Kind) (t : Tree) (child : ℕ) → child ≡ length (old ++ nodes_from (length old) t) - 1 → (old ++ nodes_from (length old) t) ++ Not child ∷ [] ≡ old ++ nodes_from (length old) (trees.Not t)
pushed_not old t child e = pushed_one Not old t child e

-- what holds at some next state
pub pushed_ex : (old : List Kind) (t : Tree) (child : ℕ) → child ≡ length (old ++ nodes_from (length old) t) - 1 → (old ++ nodes_from (length old) t) ++ Ex child ∷ [] ≡ old ++ nodes_from (length old) (trees.Ex t)
pushed_ex old t child e = pushed_one Ex old t child e

-- what holds all along some path
pub pushed_eg : (old : List Kind) (t : Tree) (child : ℕ) → child ≡ length (old ++ nodes_from (length old) t) - 1 → (old ++ nodes_from (length old) t) ++ Eg child ∷ [] ≡ old ++ nodes_from (length old) (trees.Eg t)
pushed_eg old t child e = pushed_one Eg old t child e

-- the parent of two children stands behind both
module _ (node : ℕ → ℕ → Kind) where
  -- whatever the parent is
  pushed_two : (old : List Kind) (s t : Tree) (first second : ℕ) → first ≡ length (old ++ nodes_from (length old) s) - 1
      → second ≡ length ((old ++ nodes_from (length old) s) ++ nodes_from (length (old ++ nodes_from (length old) s)) t) - 1
      → ((old ++ nodes_from (length old) s) ++ nodes_from (length (old ++ nodes_from (length old) s)) t) ++ node first second ∷ []
      ≡ old ++ ((nodes_from (length old) s ++ nodes_from (length old + size_of s) t) ++ node (length old + size_of s - 1) (length old + size_of s + size_of t - 1) ∷ [])
  pushed_two old s t first second e f =
      let k = length old in
      let left = behind_length old k s in
      let right : length ((old ++ nodes_from k s) ++ nodes_from (length (old ++ nodes_from k s)) t) ≡ k + size_of s + size_of t =
      behind_length (old ++ nodes_from k s) (length (old ++ nodes_from k s)) t ∙ ap (λ (n : ℕ). n + size_of t) left in
      ap (λ (n : ℕ). ((old ++ nodes_from k s) ++ nodes_from n t) ++ node first second ∷ []) left
      ∙ ap (λ (c : ℕ). ((old ++ nodes_from k s) ++ nodes_from (k + size_of s) t) ++ node c second ∷ []) (e ∙ ap (λ (n : ℕ). n - 1) left)
      ∙ ap (λ (c : ℕ). ((old ++ nodes_from k s) ++ nodes_from (k + size_of s) t) ++ node (k + size_of s - 1) c ∷ []) (f ∙ ap (λ (n : ℕ). n - 1) right)
      ∙ ap (λ (xs : List Kind). xs ++ node (k + size_of s - 1) (k + size_of s + size_of t - 1) ∷ []) (append_assoc old (nodes_from k s) (nodes_from (k + size_of s) t))
      ∙ append_assoc old (nodes_from k s ++ nodes_from (k + size_of s) t) (node (k + size_of s - 1) (k + size_of s + size_of t - 1) ∷ [])

-- a parent that holds where both do
pub pushed_and : (old : List Kind) (s t : Tree) (first second : ℕ) → first ≡ length (old ++ nodes_from (length old) s) - 1
    → second ≡ length ((old ++ nodes_from (length old) s) ++ nodes_from (length (old ++ nodes_from (length old) s)) t) - 1
    → ((old ++ nodes_from (length old) s) ++ nodes_from (length (old ++ nodes_from (length old) s)) t) ++ And first second ∷ [] ≡ old ++ nodes_from (length old) (trees.And s t)
pushed_and old s t first second e f = pushed_two And old s t first second e f

-- a parent that holds where one does
pub pushed_or : (old : List Kind) (s t : Tree) (first second : ℕ) → first ≡ length (old ++ nodes_from (length old) s) - 1
    → second ≡ length ((old ++ nodes_from (length old) s) ++ nodes_from (length (old ++ nodes_from (length old) s)) t) - 1
    → ((old ++ nodes_from (length old) s) ++ nodes_from (length (old ++ nodes_from (length old) s)) t) ++ Or first second ∷ [] ≡ old ++ nodes_from (length old) (trees.Or s t)
pushed_or old s t first second e f = pushed_two Or old s t first second e f

-- what holds on some path until something else does
pub pushed_eu : (old : List Kind) (s t : Tree) (first second : ℕ) → first ≡ length (old ++ nodes_from (length old) s) - 1
    → second ≡ length ((old ++ nodes_from (length old) s) ++ nodes_from (length (old ++ nodes_from (length old) s)) t) - 1
    → ((old ++ nodes_from (length old) s) ++ nodes_from (length (old ++ nodes_from (length old) s)) t) ++ Eu first second ∷ [] ≡ old ++ nodes_from (length old) (trees.Eu s t)
pushed_eu old s t first second e f = pushed_two Eu old s t first second e f

-- and on each path
pub pushed_au : (old : List Kind) (s t : Tree) (first second : ℕ) → first ≡ length (old ++ nodes_from (length old) s) - 1
    → second ≡ length ((old ++ nodes_from (length old) s) ++ nodes_from (length (old ++ nodes_from (length old) s)) t) - 1
    → ((old ++ nodes_from (length old) s) ++ nodes_from (length (old ++ nodes_from (length old) s)) t) ++ Au first second ∷ [] ≡ old ++ nodes_from (length old) (trees.Au s t)
pushed_au old s t first second e f = pushed_two Au old s t first second e f

-- all steps of the nodes
pub ruleset node_steps = (size_some, behind_length, pushed_not, pushed_ex, pushed_eg, pushed_and, pushed_or, pushed_eu, pushed_au)
