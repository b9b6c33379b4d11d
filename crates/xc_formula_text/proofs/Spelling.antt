-- The printed tokens of a formula are that formula, as it is written. Prefixes and brackets stand around each other no deeper than twice
-- the number of its nodes.
use Rattle.std.proofs.Common.{◌≡◌, ℕ, zero, suc, ◌*◌, ◌<◌, ◌≤◌, Bool, true, false, ◌||◌, ◌==◌, if◌then◌else◌, List, [], ◌∷◌, ◌++◌, length, codes, refl, arith}
use Rattle.std.specs.List.{list_all}
use Rattle.std.proofs.lemmas.Bool.{and_parts}
use Rattle.xc_theory.specs.Codes.{digits}
use Rattle.xc_base.specs.Names.{name_at}
use Rattle.xc_base.specs.Words.{is_name}
use Rattle.xc_formula.specs.Written.{Written, True, False, Braces, Level, Sum, Product, Basic, IsSpelled, IsFormula, listed}
use Rattle.xc_formula.specs.Written.IsSpelled.{truth, falsity, name, braces, prefixed, until, enclosed, factor, and, summand, or, conclusion}
use Rattle.xc_ctl.specs.Trees.{Signature, Tree, Const, Atom, Not, And, Or, Ex, Eu, Au, Eg, sizes_of}
use Rattle.xc_ctl.specs.Tables.{size_of}
use Rattle.xc_formula_text.specs.Texts.{is_and, is_or, bracketed, digit_names, tokens_of}
use Rattle.xc_formula.specs.declared.prefix.Prefix.TheVariants.{Negation, SomeNext, SomeGlobally}
use Rattle.xc_formula.specs.declared.prefix.Paths.TheVariants.{SomePath, EveryPath}
use Rattle.xc_formula_text.proofs.NamedTrees.{is_named}
use Rattle.xc_formula_text.proofs.WrittenBack.{written_of}

-- what a formula is without brackets
abbrev level_of : Tree → Level
level_of (And s t) = Product
level_of (Or s t) = Sum
level_of _ = Basic

-- an element in braces
braces_spelled : (d : ℕ) (parts : List (List (List ℕ))) (c : ℕ) → 0 < length parts → list_all is_name (digit_names parts (digits (sizes_of parts) c)) ≡ true
    → IsSpelled Basic d (codes "{" ∷ listed (digit_names parts (digits (sizes_of parts) c)) ++ codes "}" ∷ []) (Braces (digit_names parts (digits (sizes_of parts) c)))
braces_spelled d [] c some h = absurd (omega arith)
braces_spelled d (names ∷ parts) c some h = braces d _ _ h

-- by whether it is the top or the bottom
element_spelled : (d : ℕ) (a b x : Bool) (tokens : List (List ℕ)) (f : Written) → (a || b || x) ≡ true → (x ≡ true → IsSpelled Basic d tokens f)
    → IsSpelled Basic d (if a then codes "true" ∷ [] else if b then codes "false" ∷ [] else tokens) (if a then True else if b then False else f)
element_spelled d true b x tokens f h s = truth d
element_spelled d false true x tokens f h s = falsity d
element_spelled d false false x tokens f h s = s h

-- a formula at each depth from a bound on
IsDeep : Signature → Tree → Type 0
IsDeep n t = (d : ℕ) → 2 * size_of t ≤ d → IsSpelled (level_of t) d (tokens_of n t) (written_of n t)

module _ (n : Signature) where
  -- behind a prefix, and on the right of `&`
  operand : (t : Tree) (d : ℕ) → 2 * size_of t ≤ d → IsDeep n t → IsSpelled Basic (suc d) (bracketed (is_and t || is_or t) (tokens_of n t)) (written_of n t)
  unfolding IsDeep
  operand (And s t) d h deep = enclosed d _ _ (conclusion d _ _ (summand d _ _ (deep d h)))
  operand (Or s t) d h deep = enclosed d _ _ (conclusion d _ _ (deep d h))
  operand t d h deep = deep (suc d) (omega arith)

  -- on the left of `&`, and on the right of `|`
  term : (t : Tree) (d : ℕ) → 2 * size_of t ≤ d → IsDeep n t → IsSpelled Product (suc d) (bracketed (is_or t) (tokens_of n t)) (written_of n t)
  unfolding IsDeep
  term (And s t) d h deep = deep (suc d) (omega arith)
  term (Or s t) d h deep = factor (suc d) _ _ (enclosed d _ _ (conclusion d _ _ (deep d h)))
  term t d h deep = factor (suc d) _ _ (deep (suc d) (omega arith))

  -- on the left of `|`
  whole_sum : (t : Tree) (d : ℕ) → 2 * size_of t ≤ d → IsDeep n t → IsSpelled Sum d (tokens_of n t) (written_of n t)
  unfolding IsDeep
  whole_sum (And s t) d h deep = summand d _ _ (deep d h)
  whole_sum (Or s t) d h deep = deep d h
  whole_sum t d h deep = summand d _ _ (factor d _ _ (deep d h))

-- two steps down
below : (P : ℕ → Type 0) (d : ℕ) → 2 ≤ d → ((e : ℕ) → suc (suc e) ≡ d → P (suc (suc e))) → P d
below P zero h f = absurd (omega arith)
below P (suc zero) h f = absurd (omega arith)
below P (suc (suc e)) h f = f e refl

-- the tokens of a formula
deep_spelled : (n : Signature) → 0 < length n.parts → (t : Tree) → is_named n t ≡ true → IsDeep n t
unfolding IsDeep
deep_spelled n some (Const c) h d k =
    element_spelled d (c == n.top) (c == n.bottom) (list_all is_name (digit_names n.parts (digits (sizes_of n.parts) c))) _ _ h (braces_spelled d n.parts c some)
deep_spelled n some (Atom p) h d k = name d (name_at n.props p) h
deep_spelled n some (Not t) h d k =
    below (λ (m : ℕ). IsSpelled Basic m (tokens_of n (Not t)) (written_of n (Not t))) d (omega arith)
    (λ e q. prefixed (suc e) Negation _ _ (operand n t e (omega arith) (deep_spelled n some t h)))
deep_spelled n some (And s t) h d k =
    let p = and_parts (is_named n s) (is_named n t) h in
    below (λ (m : ℕ). IsSpelled Product m (tokens_of n (And s t)) (written_of n (And s t))) d (omega arith)
    (λ e q. and (suc (suc e)) _ _ _ _ (term n s (suc e) (omega arith) (deep_spelled n some s p.0)) (operand n t (suc e) (omega arith) (deep_spelled n some t p.1)))
deep_spelled n some (Or s t) h d k =
    let p = and_parts (is_named n s) (is_named n t) h in
    below (λ (m : ℕ). IsSpelled Sum m (tokens_of n (Or s t)) (written_of n (Or s t))) d (omega arith)
    (λ e q. or (suc (suc e)) _ _ _ _ (whole_sum n s (suc (suc e)) (omega arith) (deep_spelled n some s p.0)) (term n t (suc e) (omega arith) (deep_spelled n some t p.1)))
deep_spelled n some (Ex t) h d k =
    below (λ (m : ℕ). IsSpelled Basic m (tokens_of n (Ex t)) (written_of n (Ex t))) d (omega arith)
    (λ e q. prefixed (suc e) SomeNext _ _ (operand n t e (omega arith) (deep_spelled n some t h)))
deep_spelled n some (Eu s t) h d k =
    let p = and_parts (is_named n s) (is_named n t) h in
    below (λ (m : ℕ). IsSpelled Basic m (tokens_of n (Eu s t)) (written_of n (Eu s t))) d (omega arith)
    (λ e q. until (suc e) SomePath _ _ _ _ (conclusion (suc e) _ _ (whole_sum n s (suc e) (omega arith) (deep_spelled n some s p.0))) (conclusion (suc e) _ _ (whole_sum n t (suc e) (omega arith) (deep_spelled n some t p.1))))
deep_spelled n some (Au s t) h d k =
    let p = and_parts (is_named n s) (is_named n t) h in
    below (λ (m : ℕ). IsSpelled Basic m (tokens_of n (Au s t)) (written_of n (Au s t))) d (omega arith)
    (λ e q. until (suc e) EveryPath _ _ _ _ (conclusion (suc e) _ _ (whole_sum n s (suc e) (omega arith) (deep_spelled n some s p.0))) (conclusion (suc e) _ _ (whole_sum n t (suc e) (omega arith) (deep_spelled n some t p.1))))
deep_spelled n some (Eg t) h d k =
    below (λ (m : ℕ). IsSpelled Basic m (tokens_of n (Eg t)) (written_of n (Eg t))) d (omega arith)
    (λ e q. prefixed (suc e) SomeGlobally _ _ (operand n t e (omega arith) (deep_spelled n some t h)))

-- with at most 256 nodes the tokens are a formula
pub tokens_are_formula : (n : Signature) (t : Tree) → 0 < length n.parts → is_named n t ≡ true → size_of t ≤ 256 → IsFormula (tokens_of n t) (written_of n t)
tokens_are_formula n t some h few = conclusion 512 _ _ (whole_sum n t 512 (omega arith) (deep_spelled n some t h))
