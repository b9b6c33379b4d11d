-- A formula has no more than four nodes for each of its tokens.
use Rattle.std.proofs.Common.{◌≡◌, ℕ, ◌+◌, ◌*◌, ◌≤◌, List, [], ◌∷◌, ◌++◌, length, length-append, codes, Option, Some, None, subst, arith}
use Rattle.std.specs.List.{position}
use Rattle.std.specs.Option.{option_map}
use Rattle.std.specs.Str.{bytes_eq}
use Rattle.xc_formula.specs.Written.{Written, Level, IsSpelled}
use Rattle.xc_formula.specs.Written.IsSpelled.{truth, falsity, name, braces, prefixed, until, enclosed, factor, and, summand, or, conclusion, implies}
use Rattle.xc_ctl.specs.Trees.{Signature, Tree, Const, Atom, Not, And, Or, both, element_named}
use Rattle.xc_resolved.specs.Resolved.{resolved}
use Rattle.xc_resolved.specs.Resolved as resolving
use Rattle.xc_ctl.specs.Tables.{size_of}
use Rattle.xc_formula.specs.declared.prefix.Prefix.{Prefix}
use Rattle.xc_formula.specs.declared.prefix.Prefix.TheVariants.{Negation, SomeNext, AllNext, SomeFinally, AllFinally, SomeGlobally, AllGlobally}
use Rattle.xc_formula.specs.declared.prefix.Paths.{Paths}
use Rattle.xc_formula.specs.declared.prefix.Paths.TheVariants.{SomePath, EveryPath}
use Rattle.xc_formula.specs.Reading.{formula_in}
use Rattle.xc_formula.proofs.FormulaReading.{formula_sound}

-- how many nodes there are, where there is a tree
abbrev size_in : Option Tree → ℕ
size_in None = 0
size_in (Some t) = size_of t

-- a proposition
atom_size : (o : Option ℕ) → size_in (option_map Atom o) ≤ 1
atom_size None = omega arith
atom_size (Some p) = omega arith

-- a constant
const_size : (o : Option ℕ) → size_in (option_map Const o) ≤ 1
const_size None = omega arith
const_size (Some c) = omega arith

-- what is behind a prefix
prefixed_size : (top : ℕ) (p : Prefix) (o : Option Tree) → size_in (option_map (resolving.prefixed top p) o) ≤ size_in o + 4
prefixed_size top p None = omega arith
prefixed_size top Negation (Some t) = omega arith
prefixed_size top SomeNext (Some t) = omega arith
prefixed_size top AllNext (Some t) = omega arith
prefixed_size top SomeFinally (Some t) = omega arith
prefixed_size top AllFinally (Some t) = omega arith
prefixed_size top SomeGlobally (Some t) = omega arith
prefixed_size top AllGlobally (Some t) = omega arith

-- two in brackets
until_size : (q : Paths) (o p : Option Tree) → size_in (both (resolving.until q) o p) ≤ size_in o + size_in p + 1
until_size q None p = omega arith
until_size q (Some s) None = omega arith
until_size SomePath (Some s) (Some t) = omega arith
until_size EveryPath (Some s) (Some t) = omega arith

-- both
and_size : (o p : Option Tree) → size_in (both And o p) ≤ size_in o + size_in p + 1
and_size None p = omega arith
and_size (Some s) None = omega arith
and_size (Some s) (Some t) = omega arith

-- one of two
or_size : (o p : Option Tree) → size_in (both Or o p) ≤ size_in o + size_in p + 1
or_size None p = omega arith
or_size (Some s) None = omega arith
or_size (Some s) (Some t) = omega arith

-- an implication
implies_size : (o p : Option Tree) → size_in (both (λ s t. Or (Not s) t) o p) ≤ size_in o + size_in p + 2
implies_size None p = omega arith
implies_size (Some s) None = omega arith
implies_size (Some s) (Some t) = omega arith

-- the tokens of a formula
spelled_size : (n : Signature) (l : Level) (d : ℕ) (tokens : List (List ℕ)) (f : Written) → IsSpelled l d tokens f → size_in (resolved n f) ≤ 4 * length tokens
spelled_size n _ _ _ _ (truth d) = omega arith
spelled_size n _ _ _ _ (falsity d) = omega arith
spelled_size n _ _ _ _ (name d p h) = let one = atom_size (position (bytes_eq p) n.props) in omega (arith, one)
spelled_size n _ _ _ _ (braces d v more h) = let one = const_size (element_named n.parts (v ∷ more)) in omega (arith, one)
spelled_size n _ _ _ _ (prefixed d p tokens f s) = let below = spelled_size n _ d tokens f s in let four = prefixed_size n.top p (resolved n f) in omega (arith, below, four)
spelled_size n _ _ _ _ (until d q left right f g s t) =
    let a = spelled_size n _ d left f s in
    let b = spelled_size n _ d right g t in
    let one = until_size q (resolved n f) (resolved n g) in
    omega (arith, a, b, one, length-append left (codes "U" ∷ right), length-append (left ++ codes "U" ∷ right) (codes "]" ∷ []))
spelled_size n _ _ _ _ (enclosed d tokens f s) = let below = spelled_size n _ d tokens f s in omega (arith, below, length-append tokens (codes ")" ∷ []))
spelled_size n _ _ _ _ (factor d tokens f s) = spelled_size n _ d tokens f s
spelled_size n _ _ _ _ (and d left right f g s t) =
    let a = spelled_size n _ d left f s in
    let b = spelled_size n _ d right g t in
    let one = and_size (resolved n f) (resolved n g) in
    omega (arith, a, b, one, length-append left (codes "&" ∷ right))
spelled_size n _ _ _ _ (summand d tokens f s) = spelled_size n _ d tokens f s
spelled_size n _ _ _ _ (or d left right f g s t) =
    let a = spelled_size n _ d left f s in
    let b = spelled_size n _ d right g t in
    let one = or_size (resolved n f) (resolved n g) in
    omega (arith, a, b, one, length-append left (codes "|" ∷ right))
spelled_size n _ _ _ _ (conclusion d tokens f s) = spelled_size n _ d tokens f s
spelled_size n _ _ _ _ (implies d left right f g s t) =
    let a = spelled_size n _ d left f s in
    let b = spelled_size n _ d right g t in
    let two = implies_size (resolved n f) (resolved n g) in
    omega (arith, a, b, two, length-append left (codes "->" ∷ right))

-- the tree of a formula that is read
pub formula_size : (n : Signature) (tokens : List (List ℕ)) (f : Written) (t : Tree) → formula_in tokens ≡ Some f → resolved n f ≡ Some t → size_of t ≤ 4 * length tokens
formula_size n tokens f t e k = subst (λ (o : Option Tree). size_in o ≤ 4 * length tokens) k (spelled_size n _ _ tokens f (formula_sound tokens f e))
